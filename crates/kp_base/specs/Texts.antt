-- The texts of pieces, and a text with holes that pieces fill.
use Rattle.std.specs.Prelude.{ℕ, ◌+◌, ◌-◌, ◌==◌, Bool, not, List, [], ◌∷◌, ◌++◌, length, take, drop, replicate, decimal}
use Rattle.kp_base.specs.Characters.{run_length}
use Rattle.kp_base.specs.declared.piece.Piece.{Piece, TheVariants.Text, TheVariants.Number, TheVariants.Spaces, TheVariants.Column}

abbrev pub spaces : ℕ → List ℕ
spaces n = replicate n 32

-- a text at the right end of a column
abbrev pub in_column : ℕ → List ℕ → List ℕ
in_column width text = spaces (width - length text) ++ text

abbrev pub piece_text : Piece → List ℕ
piece_text (Text text) = text.now
piece_text (Number number) = decimal number
piece_text (Spaces count) = spaces count
piece_text (Column width number) = in_column width (decimal number)

-- a byte of a text with holes, and no hole (64 is `@`)
abbrev pub is_text : ℕ → Bool
is_text byte = not (byte == 64)

-- the number of bytes before the first hole
abbrev pub hole_in : List ℕ → ℕ
hole_in text = run_length is_text text

-- A TEXT WITH ITS HOLES, its bytes `@`, filled in order. After the last part the rest of the text follows as it is.
unfoldable pub filled : List ℕ → List (List ℕ) → List ℕ
filled text [] = text
filled text (part ∷ parts) = take (hole_in text) text ++ (part ++ filled (drop (hole_in text + 1) text) parts)
