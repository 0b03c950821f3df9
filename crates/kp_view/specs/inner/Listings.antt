-- What directives give, as it is stored.
use Rattle.std.specs.Prelude.{ℕ, List, map, string_bytes}
use Rattle.kp_base.specs.Lines.{piece_of}
use Rattle.kp_view.specs.Listed.{Listed}
use Rattle.kp_view.specs.declared.listed.Listed as code

abbrev pub listed_seen : List ℕ → code.Listed → Listed
listed_seen input listed = record { names = map string_bytes listed.names.items; label = (piece_of input listed.label).bytes }
