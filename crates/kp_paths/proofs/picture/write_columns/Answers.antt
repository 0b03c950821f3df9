use Rattle.std.proofs.Common.{map, string_bytes}
use Rattle.kp_base.proofs.Writing.{up_next}
use Rattle.kp_paths.proofs.PictureSteps.{columns_next}
use Rattle.kp_paths.proofs.picture.write_columns.Goals as goal

pub loop-j-preserved : goal.loop-j-preserved
loop-j-preserved g c = up_next _ _ _ _ _ _ _ (columns_next (map string_bytes c.args.names.now) c.args.low c.args.count c.loop-j.j c.loop-j-test.true) c.loop-j.invariant (rw c.middle.ensures.value at c.write_column.ensures)
