use Rattle.std.proofs.Common.{◌≡◌, ◌++◌, drop}
use Rattle.kp_lint.specs.Sets.{sets_in}
use Rattle.kp_lint.proofs.sets.add_sets.Given as goal

abbrev pub invariant-loop-index : goal.invariant-loop-index
invariant-loop-index l =
    l.sets.items ++ sets_in l.name l.stage l.index (drop l.index l.stmts) ≡ l.initial.sets.items ++ sets_in l.name l.stage 0 l.stmts
