use Rattle.std.{proofs.Common.◌≡◌, proofs.Common.drop, specs.List.flat_map}
use Rattle.kp_lint.specs.Tables.{value_of}
use Rattle.kp_lint.specs.{Used.names_in_stmt, inner.Noted.noted}
use Rattle.kp_lint.proofs.used.add_stmts.Given as goal

abbrev pub invariant-loop-stmt : goal.invariant-loop-stmt
invariant-loop-stmt l = noted (value_of l.used.entries) (flat_map names_in_stmt (drop l.stmt-index l.stmts)) ≡ noted (value_of l.initial.used.entries) (flat_map names_in_stmt l.stmts)
