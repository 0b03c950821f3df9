-- Start values by the names of registers.
use Rattle.std.specs.Prelude.{ℕ, ◌≡◌, List, ◌∷◌, Option}
use Rattle.kp_bits.specs.declared.literal.Literal.{Literal}
use Rattle.kp_vlog.specs.{declared.tree.Init.Init, Occurrences.start_in}

-- one line more, before some others
pub record StartsAt (old new : List ℕ → Option Literal) (x : Init) : Type 0 where
  pub starts : (xs : List Init) → ((n : List ℕ) → old n ≡ start_in xs n) → (n : List ℕ) → new n ≡ start_in (x ∷ xs) n
