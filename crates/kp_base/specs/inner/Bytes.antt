-- A text that is written piece by piece.
use Rattle.std.specs.{Prelude.◌≡◌, Prelude.ℕ, Prelude.List, Prelude.◌++◌, Prelude.Option, Io.KnownBytes.Appends}

-- the complete text is written except for this rest
pub record WrittenUpTo (whole rest : List ℕ) (old new : Option (List ℕ)) : Type 0 where
  pub done : List ℕ
  pub split : whole ≡ done ++ rest
  pub appended : Appends old new done
