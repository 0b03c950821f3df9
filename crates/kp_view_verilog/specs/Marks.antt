-- How many bytes are marked where a Verilog text violates a rule.
use Rattle.std.specs.Prelude.{ℕ, ◌+◌, ◌-◌, ◌==◌, ◌&&◌, min, max, Bool, false, List, ◌∷◌, length, drop, is_some, if◌then◌else◌}
use Rattle.kp_base.specs.{Characters.run_length, declared.place.Place.Place}
use Rattle.kp_vlog.specs.{Tokens.Token, Tokens.Lexes, Tokens.LexesTo, Tokens.is_in_run, Words.double_mark}
use Rattle.kp_view_excerpt.specs.Lines.{offset_at}

-- the offset of a place, or of the end of the text where the text has no such place. Other than for an excerpt, a carriage return ends no line.
abbrev pub offset_in : List ℕ → Place → ℕ
offset_in text p = min (offset_at text (record { line = p.line; col = 1 }) + (p.col - 1)) (length text)

-- the text from a place on
abbrev pub from_place : List ℕ → Place → List ℕ
from_place text p = drop (offset_in text p) text

-- a run of letters, digits, `_`, `$` and `'`, or one byte
abbrev pub run_or_byte : List ℕ → ℕ
run_or_byte rest = max 1 (run_length is_in_run rest)

-- the `/*` of a comment that isn't closed, or such a run
abbrev pub opens_comment : List ℕ → Bool
opens_comment (a ∷ b ∷ rest) = a == 47 && b == 42
opens_comment _ = false

abbrev pub unread_length : List ℕ → ℕ
unread_length rest = if opens_comment rest then 2 else run_or_byte rest

-- a punctuator of two bytes, or such a run
abbrev pub is_double : List ℕ → Bool
is_double (a ∷ b ∷ rest) = is_some (double_mark a b)
is_double _ = false

abbrev pub token_length : List ℕ → ℕ
token_length rest = if is_double rest then 2 else run_or_byte rest

-- HOW MANY BYTES are marked at a place: where the text from an offset on has tokens (V2 to V5) those of the token there, and where no token starts
-- somewhere in it (V1) what isn't read.
pub data Marks (text : List ℕ) (from : ℕ) (p : Place) : ℕ → Type 0 where
  of_unread : {to : ℕ} → LexesTo from (drop from text) to → Marks text from p (unread_length (from_place text p))
  of_token : (tokens : List Token) → Lexes from (drop from text) tokens → Marks text from p (token_length (from_place text p))
