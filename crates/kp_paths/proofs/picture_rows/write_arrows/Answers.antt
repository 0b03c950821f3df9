use Rattle.std.proofs.Common.{map, string_bytes}
use Rattle.kp_base.proofs.Writing.{up_next}
use Rattle.kp_paths.proofs.PictureSteps.{arrows_next}
use Rattle.kp_paths.proofs.picture_rows.write_arrows.Goals as goal

pub loop-j-preserved : goal.loop-j-preserved
loop-j-preserved g c = up_next _ _ _ _ _ _ _ (arrows_next c.args.paths.now c.args.read.now c.args.k c.args.count c.loop-j.j c.loop-j-test.true (map string_bytes c.args.names.now)) c.loop-j.invariant (rw c.cell.ensures at c.write_cell.ensures)
