-- The lines of a text, counted from 1, and the offset of a place.
use Rattle.std.specs.Prelude.{◌≡◌, ◌⊎◌, ℕ, zero, suc, ◌+◌, ◌-◌, ◌==◌, ◌||◌, not, min, Bool, true, List, [], ◌∷◌, ◌++◌, length, take, drop, All, if◌then◌else◌}
use Rattle.kp_base.specs.{Characters.run_length, declared.place.Place.Place}

-- what follows the first n line feeds: nothing where there are fewer
abbrev pub after_lines : ℕ → List ℕ → List ℕ
after_lines zero text = text
after_lines (suc n) [] = []
after_lines (suc n) (byte ∷ rest) = if byte == 10 then after_lines n rest else after_lines (suc n) rest

-- neither a line feed nor a carriage return
abbrev pub is_in_line : ℕ → Bool
is_in_line byte = not (byte == 10 || byte == 13)

-- the longest prefix of such bytes
abbrev pub first_line : List ℕ → List ℕ
first_line text = take (run_length is_in_line text) text

-- THE LINE of this number, without its end.
abbrev pub line_at : List ℕ → ℕ → List ℕ
line_at text number = first_line (after_lines (number - 1) text)

-- the bytes of its line from a place on
abbrev pub from_place : List ℕ → Place → List ℕ
from_place text place = drop (place.col - 1) (line_at text place.line)

-- THE OFFSET of a place: of its line, and the bytes of the line before it.
abbrev pub offset_at : List ℕ → Place → ℕ
offset_at text place = (length text - length (after_lines (place.line - 1) text)) + min (place.col - 1) (length (line_at text place.line))

-- complete lines, to a line feed
abbrev pub AreLines : List ℕ → Type 0
AreLines text = (text ≡ []) ⊎ ((front : List ℕ) × (text ≡ front ++ 10 ∷ []))

-- a part of a line
abbrev pub IsInLine : List ℕ → Type 0
IsInLine text = All (λ byte. is_in_line byte ≡ true) text
