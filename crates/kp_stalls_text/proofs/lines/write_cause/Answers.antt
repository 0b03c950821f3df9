use Rattle.std.proofs.Common.{ap, sym}
use Rattle.kp_base.proofs.Writing.{wrote_as}
use Rattle.kp_stalls_text.specs.Text.{cause_text}
use Rattle.kp_stalls_text.proofs.lines.write_cause.Goals as goal

pub returns-in-Held : goal.returns-in-Held
returns-in-Held g c =
    wrote_as _ _ _ _ (ap (cause_text c.args.report.now.names c.args.report.now.labels c.args.line.number c.args.line.stage) (sym c.in-Held.is)) c.write_staged-in-Held.ensures

pub returns-in-Later : goal.returns-in-Later
returns-in-Later g c =
    wrote_as _ _ _ _ (ap (cause_text c.args.report.now.names c.args.report.now.labels c.args.line.number c.args.line.stage) (sym c.in-Later.is)) c.write_staged-in-Later.ensures
