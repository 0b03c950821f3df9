use Rattle.std.proofs.Common.{◌≡◌, ◌++◌, drop}
use Rattle.kp_lint.specs.Sets.{sets_from}
use Rattle.kp_lint.proofs.sets.sets_of.Given as goal

abbrev pub invariant-loop-stage : goal.invariant-loop-stage
invariant-loop-stage l = l.sets.items ++ sets_from l.name l.stage (drop l.stage l.blocks) ≡ sets_from l.name 0 l.blocks
