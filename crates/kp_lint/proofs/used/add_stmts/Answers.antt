use Rattle.std.proofs.Common.{◌∙◌}
use Rattle.kp_lint.specs.Tables.{value_of}
use Rattle.kp_lint.{specs.Used.names_in_stmt, proofs.Noting.more}
use Rattle.kp_lint.proofs.used.add_stmts.Goals as goal

pub loop-stmt-preserved : goal.loop-stmt-preserved
loop-stmt-preserved c =
    more names_in_stmt (value_of c.loop-stmt.used.entries) (value_of c.add_stmt.new.used.entries) c.args.stmts.now c.loop-stmt.stmt-index c.stmt-item.result c.loop-stmt-test.true c.stmt-item.is c.in_ok-add_stmt.ensures
    ∙ c.loop-stmt.invariant
