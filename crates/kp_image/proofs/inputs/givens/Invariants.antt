use Rattle.std.proofs.Common.{◌≡◌, ◌++◌, drop}
use Rattle.kp_image.specs.inner.Kept.{givens_of}
use Rattle.kp_image.proofs.inputs.givens.Given as goal

abbrev pub invariant-loop-e : goal.invariant-loop-e
invariant-loop-e l = l.all.items ++ givens_of (drop l.e-index l.entries) l.name ≡ givens_of l.entries l.name
