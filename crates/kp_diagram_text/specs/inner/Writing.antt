-- A text that is written up to a rest.
use Rattle.std.specs.Prelude.{◌≡◌, ℕ, Bool, List, ◌++◌, Option}
use Rattle.kp_diagram_text.specs.Writing.{Wrote}

-- the complete text except for this rest
pub record WroteUpTo (whole rest : List ℕ) (old : Option (List ℕ)) (n : ℕ) (before : Bool) (new : Option (List ℕ)) (m : ℕ) (after : Bool) : Type 0 where
  pub done : List ℕ
  pub split : whole ≡ done ++ rest
  pub wrote : Wrote old n before new m after done
