-- The names of a text.
use Rattle.std.specs.Prelude.{ℕ, List, length, take, drop, min}
use Rattle.kp_base.specs.Characters.{run_length}
use Rattle.kp_net.specs.Names.{is_in_identifier}

-- the letters, digits, `_` and `$` at the head of a text
abbrev pub name_of : List ℕ → List ℕ
name_of rest = take (run_length is_in_identifier rest) rest

-- those from an offset on, or from the end of the text where the offset is past it
abbrev pub name_in : List ℕ → ℕ → List ℕ
name_in text at = name_of (drop (min at (length text)) text)
