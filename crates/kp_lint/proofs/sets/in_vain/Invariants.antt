use Rattle.std.proofs.Common.{◌≡◌, drop}
use Rattle.kp_lint.specs.Sets.{in_vain}
use Rattle.kp_lint.proofs.sets.in_vain.Given as goal

abbrev pub invariant-loop-i : goal.invariant-loop-i
invariant-loop-i l = in_vain (drop l.i l.sets) ≡ in_vain l.sets
