use Rattle.std.proofs.Common.{ap, sym}
use Rattle.kp_base.proofs.Writing.{wrote_as}
use Rattle.kp_stalls_text.specs.Text.{had_text}
use Rattle.kp_stalls_text.proofs.lines.write_had.Goals as goal

pub returns-in-Known : goal.returns-in-Known
returns-in-Known g c = wrote_as _ _ _ _ (ap (had_text c.args.report.now.names) (sym c.in-Known.is)) (rw c.from.ensures at c.write_staged.ensures)

pub returns-in-Set : goal.returns-in-Set
returns-in-Set g c = wrote_as _ _ _ _ (ap (had_text c.args.report.now.names) (sym c.in-Set.is)) (rw c.from-in-Set.ensures at c.write_staged-in-Set.ensures)

pub returns-in-Moved : goal.returns-in-Moved
returns-in-Moved g c = wrote_as _ _ _ _ (ap (had_text c.args.report.now.names) (sym c.in-Moved.is)) c.put.ensures
