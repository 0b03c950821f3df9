-- How many bytes are marked where a rule of programs or of scripts is violated: those of the token or of the word there.
use Rattle.std.specs.Prelude.{ℕ, ◌==◌, ◌||◌, not, Bool, List, drop}
use Rattle.kp_base.specs.{Characters.run_length, Lines.is_blank, declared.place.Place.Place}
use Rattle.kp_asm.specs.Tokens.{token_length}
use Rattle.kp_view_excerpt.specs.Lines.{offset_at}

-- HOW MANY BYTES are marked in a program that violates a rule at this place: the token there, or nothing at the end of a line.
abbrev pub program_mark : List ℕ → Place → ℕ
program_mark text place = token_length (drop (offset_at text place) text)

-- a byte of a word: it is no blank, and doesn't end the line
abbrev pub is_of_word : ℕ → Bool
is_of_word byte = not (byte == 10 || is_blank byte)

-- the length of the word that a text begins with
abbrev pub word_length : List ℕ → ℕ
word_length text = run_length is_of_word text

-- HOW MANY BYTES are marked in a script that violates a rule at this place: the word there.
abbrev pub script_mark : List ℕ → Place → ℕ
script_mark text place = word_length (drop (offset_at text place) text)
