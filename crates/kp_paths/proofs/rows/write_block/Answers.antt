use Rattle.std.proofs.Common.{map, string_bytes}
use Rattle.kp_base.proofs.Writing.{up_next}
use Rattle.kp_paths.proofs.Steps.{rows_next}
use Rattle.kp_paths.proofs.rows.write_block.Goals as goal

pub loop-stmt-preserved : goal.loop-stmt-preserved
loop-stmt-preserved g c = up_next _ _ _ _ _ _ _ (rows_next (map string_bytes c.args.names.now) c.args.paths.now c.args.width c.args.k c.args.stmts.now c.loop-stmt.stmt-index _ c.loop-stmt-test.true c.stmt-item.is) c.loop-stmt.invariant c.write_stmt.ensures
