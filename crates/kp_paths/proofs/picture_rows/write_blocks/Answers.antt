use Rattle.std.proofs.Common.{map, string_bytes}
use Rattle.kp_base.proofs.Writing.{up_next}
use Rattle.kp_paths.proofs.PictureSteps.{blocks_next}
use Rattle.kp_paths.proofs.picture_rows.write_blocks.Goals as goal

pub loop-k-preserved : goal.loop-k-preserved
loop-k-preserved g c = record {
  text = rw (rw c.as_slice-in-loop-k.ensures at c.rows_end-top.ensures.value)
      (up_next _ _ _ _ _ _ _ (blocks_next c.args.paths.now c.loop-k.top c.args.blocks.now c.loop-k.k c.index-blocks-k.result c.loop-k-test.true c.index-blocks-k.is (map string_bytes c.args.names.now)) c.loop-k.invariant.text (rw c.as_slice.ensures at c.write_block.ensures));
  few = c.rows_end-top.ensures.few;
}
