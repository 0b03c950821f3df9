-- The texts of punctuators.
use Rattle.std.specs.Prelude.{ℕ, List, [], ◌∷◌, ◌≡◌, Some}
use Rattle.kp_vlog.specs.{Words.single_mark, Words.double_mark, declared.token.Mark.Mark}

-- These one or two bytes are read as the punctuator.
abbrev pub IsRead : List ℕ → Mark → Type 0
IsRead (a ∷ []) mark = single_mark a ≡ Some mark
IsRead (a ∷ b ∷ []) mark = double_mark a b ≡ Some mark
IsRead _ mark = ⊥
