-- What was written to a sink that may fail. `old` and `new` are the bytes in the sink, n and m its faults, and `before` and `after` whether it has
-- failed, before the writing and after it.
use Rattle.std.specs.Prelude.{◌≡◌, ℕ, ◌≤◌, Bool, true, false, List, Option}
use Rattle.std.specs.Io.KnownBytes.{Appends}
use Rattle.kp_base.specs.{Bytes.AppendsPart, Causes.Rose}

abbrev pub Writing : Option (List ℕ) → ℕ → Bool → Option (List ℕ) → ℕ → Bool → List ℕ → Type 0
Writing old n true new m true text = (new ≡ old) × (m ≡ n)
Writing old n true new m false text = ⊥
Writing old n false new m true text = AppendsPart old new text × ((n ≤ m) × Rose n m)
Writing old n false new m false text = Appends old new text × (n ≤ m)

-- the text was written, unless the sink has failed
pub record Wrote (old : Option (List ℕ)) (n : ℕ) (before : Bool) (new : Option (List ℕ)) (m : ℕ) (after : Bool) (text : List ℕ) : Type 0 where
  pub is : Writing old n before new m after text
