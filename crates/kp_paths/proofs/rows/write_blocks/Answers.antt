use Rattle.std.proofs.Common.{map, string_bytes}
use Rattle.kp_base.proofs.Writing.{up_next}
use Rattle.kp_paths.proofs.Steps.{blocks_next}
use Rattle.kp_paths.proofs.rows.write_blocks.Goals as goal

pub loop-k-preserved : goal.loop-k-preserved
loop-k-preserved g c = up_next _ _ _ _ _ _ _ (blocks_next (map string_bytes c.args.names.now) c.args.paths.now c.args.width c.args.blocks.now c.loop-k.k c.index-blocks-k.result c.loop-k-test.true c.index-blocks-k.is) c.loop-k.invariant (rw c.as_slice.ensures at c.write_block.ensures)
