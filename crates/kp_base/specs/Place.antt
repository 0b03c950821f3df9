-- The position after a prefix of a text: its line and its column, both counted from 1, columns in bytes.
use Rattle.std.specs.{Prelude.◌==◌, Prelude.not, Prelude.ℕ, Prelude.◌+◌, Prelude.List, Prelude.length, Prelude.reverse, Prelude.count_by, List.take_while}
use Rattle.kp_base.specs.declared.place.Place.{Place}

-- one more than the number of line feeds in the prefix
abbrev pub line_after : List ℕ → ℕ
line_after front = 1 + count_by (λ byte. byte == 10) front

-- one more than the number of bytes after its last line feed
abbrev pub column_after : List ℕ → ℕ
column_after front = 1 + length (take_while (λ byte. not (byte == 10)) (reverse front))

abbrev pub place_after : List ℕ → Place
place_after front = record { line = line_after front; col = column_after front }
