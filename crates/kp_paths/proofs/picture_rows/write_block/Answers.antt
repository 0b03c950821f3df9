use Rattle.std.proofs.Common.{map, string_bytes}
use Rattle.kp_base.proofs.Writing.{up_next}
use Rattle.kp_paths.proofs.PictureSteps.{rows_next}
use Rattle.kp_paths.proofs.picture_rows.write_block.Goals as goal

pub loop-stmt-preserved : goal.loop-stmt-preserved
loop-stmt-preserved g c = record {
  text = rw c.row_end-top.ensures.value
      (up_next _ _ _ _ _ _ _ (rows_next c.args.paths.now c.args.k c.loop-stmt.top c.args.stmts.now c.loop-stmt.stmt-index _ c.loop-stmt-test.true c.stmt-item.is (map string_bytes c.args.names.now)) c.loop-stmt.invariant.text c.write_stmt.ensures);
  few = c.row_end-top.ensures.few;
}
