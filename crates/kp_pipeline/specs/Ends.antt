-- THE PUTS AND SETS of a stage at each of its ends.
use Rattle.std.specs.Prelude.{ℕ, Option}
use Rattle.kp_pipeline.specs.Machine.{Tree, Done, Ask, Guess}

abbrev pub Ends : ((ℕ → Option ℕ) → (ℕ → Option ℕ) → Type 0) → Tree → Type 0
Ends P (Done puts sets aims) = P puts sets
Ends P (Ask t a rest) = (v : ℕ) → Ends P (rest v)
Ends P (Guess t guess rest) = (v : ℕ) → Ends P (rest v)
