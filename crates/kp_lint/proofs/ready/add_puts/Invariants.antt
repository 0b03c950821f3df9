use Rattle.std.proofs.Common.{◌≡◌, drop}
use Rattle.kp_lint.specs.Tables.{value_of}
use Rattle.kp_lint.specs.Ready.{after_stmts}
use Rattle.kp_lint.proofs.ready.add_puts.Given as goal

abbrev pub invariant-loop-stmt : goal.invariant-loop-stmt
invariant-loop-stmt l = after_stmts l.stage (value_of l.pipes.entries) (drop l.stmt-index l.stmts) ≡ after_stmts l.stage (value_of l.initial.pipes.entries) l.stmts
