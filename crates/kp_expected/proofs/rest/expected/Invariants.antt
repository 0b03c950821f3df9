use Rattle.std.proofs.Common.{ℕ, ◌≡◌, ◌<◌, Bool, Some, true, length}
use Rattle.std.specs.Prelude.{slice_get, ◌↔◌}
use Rattle.kp_expected.specs.{Plain.plain, GoesOn.GoesOn}
use Rattle.kp_expected.proofs.rest.expected.Given as goal

abbrev pub invariant-loop-i : goal.invariant-loop-i
invariant-loop-i g l =
    (length l.answers ≡ length l.classes)
    × ((k : ℕ) (c : g.row.C.Denot) → k < l.i → slice_get l.classes k ≡ Some c
    → (b : Bool) × (slice_get l.answers k ≡ Some b) × ((b ≡ true) ↔ GoesOn (plain g.C.Class.number g.P.Part.rules) (g.P.Part.name l.fn.start) tt l.fn.front c))
