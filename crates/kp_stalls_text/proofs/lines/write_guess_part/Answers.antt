use Rattle.std.proofs.Common.{ap, sym}
use Rattle.kp_base.proofs.Writing.{wrote_as}
use Rattle.kp_stalls_text.specs.Text.{guess_part}
use Rattle.kp_stalls_text.proofs.lines.write_guess_part.Goals as goal

pub returns-in-None : goal.returns-in-None
returns-in-None g c = wrote_as _ _ _ _ (ap (guess_part c.args.report.now.names c.args.report.now.labels) (sym c.in-None.is)) c.put.ensures
