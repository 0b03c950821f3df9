use Rattle.std.proofs.Common.{◌≡◌, drop}
use Rattle.kp_lint.specs.Sets.{first_sure}
use Rattle.kp_lint.proofs.sets.first_sure.Given as goal

abbrev pub invariant-loop-set : goal.invariant-loop-set
invariant-loop-set l = first_sure (drop l.set-index l.sets) ≡ first_sure l.sets
