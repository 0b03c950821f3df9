-- The names that are given as bytes.
use Rattle.std.specs.{Prelude.ℕ, Prelude.List, Prelude.Bool, Prelude.◌&&◌, Prelude.nat_le, Prelude.length, List.list_all}
use Rattle.kp_base.specs.Characters.{is_word}

-- a test for names
abbrev pub is_spelled : List ℕ → Bool
is_spelled bytes = list_all is_word bytes && (nat_le 1 (length bytes) && nat_le (length bytes) 64)
