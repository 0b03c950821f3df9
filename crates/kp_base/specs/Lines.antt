-- The lines of a text, and the tokens of a line: the pieces between separators.
use Rattle.std.specs.Prelude.{ℕ, ◌+◌, ◌≤◌, Bool, ◌||◌, ◌==◌, nat_lt, if◌then◌else◌, List, [], ◌∷◌, length, filter, slice_range}
use Rattle.kp_base.specs.declared.run.Run.{Run}

-- some bytes, and the number of bytes of the text before them
pub record Piece : Type 0 where
  pub at : ℕ
  pub bytes : List ℕ

-- a byte more in front of the first piece
abbrev pub lengthened : ℕ → ℕ → List Piece → List Piece
lengthened at c [] = []
lengthened at c (p ∷ ps) = record { at = at; bytes = c ∷ p.bytes } ∷ ps

-- the pieces between the separators among bytes that start at this offset; a piece may be empty
abbrev pub pieces : (ℕ → Bool) → ℕ → List ℕ → List Piece
pieces separates at [] = record { at = at; bytes = [] } ∷ []
pieces separates at (c ∷ cs) =
    if separates c then record { at = at; bytes = [] } ∷ pieces separates (at + 1) cs
    else lengthened at c (pieces separates (at + 1) cs)

-- a line feed ends a line
abbrev pub is_break : ℕ → Bool
is_break c = c == 10

-- a space, a tab or a carriage return separates tokens
abbrev pub is_blank : ℕ → Bool
is_blank c = c == 32 || c == 9 || c == 13

abbrev pub lines_of : Piece → List Piece
lines_of text = pieces is_break text.at text.bytes

-- the tokens of a line: the pieces that aren't empty
abbrev pub words_of : Piece → List Piece
words_of line = filter (λ p. nat_lt 0 (length p.bytes)) (pieces is_blank line.at line.bytes)

-- a run of a text, as a piece
abbrev pub piece_of : List ℕ → Run → Piece
piece_of text run = record { at = run.at; bytes = slice_range text run.at run.end }

-- the run is within the text
abbrev pub IsWithin : List ℕ → Run → Type 0
IsWithin text run = (run.at ≤ run.end) × (run.end ≤ length text)
