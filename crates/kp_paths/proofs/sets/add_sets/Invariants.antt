use Rattle.std.proofs.Common.{◌≡◌, ◌++◌, drop}
use Rattle.kp_paths.specs.Table.{sets_in}
use Rattle.kp_paths.proofs.sets.add_sets.Given as goal

abbrev pub invariant-loop-stmt : goal.invariant-loop-stmt
invariant-loop-stmt l = l.sets.items ++ sets_in l.decls l.k (drop l.stmt-index l.stmts) ≡ l.initial.sets.items ++ sets_in l.decls l.k l.stmts
