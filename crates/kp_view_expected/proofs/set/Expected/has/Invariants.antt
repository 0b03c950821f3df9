use Rattle.std.{proofs.Common.ℕ, proofs.Common.◌≡◌, proofs.Common.◌<◌, proofs.Common.Some, proofs.Common.true, specs.Prelude.slice_get}
use Rattle.kp_view_expected.specs.GoesOn.{all_classes}
use Rattle.kp_view_expected.proofs.set.Expected.has.Given as goal

abbrev pub invariant-loop-i : goal.invariant-loop-i
invariant-loop-i l = (k : ℕ) → k < l.i → slice_get all_classes k ≡ Some l.class → slice_get l.self.listed k ≡ Some true → ⊥
