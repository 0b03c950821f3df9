-- Rows of masks as rows of bits: the outputs of a pipelined machine, in the form of the laws of the pipeline.
use Rattle.std.specs.Prelude.{ℕ, ◌/◌, ◌%◌, ◌^◌, ◌==◌, List, Bool, map}
use Rattle.kp_base.specs.declared.row.Row.{Row}
use Rattle.kp_pipeline.specs.Rows as law
use Rattle.kp_pipeline.specs.Rows.{bits}

-- Bit k of a mask.
abbrev pub bit_of : ℕ → ℕ → Bool
bit_of mask k = mask / 2 ^ k % 2 == 1

-- A row of masks as a row of n stages: bit k of each mask belongs to stage k, and `back` is the same number.
abbrev pub row_seen : ℕ → Row → law.Row
row_seen n r = record { full = bits (bit_of r.full) n 0; ue = bits (bit_of r.ue) n 0; back = r.back }

abbrev pub rows_seen : ℕ → List Row → List law.Row
rows_seen n rows = map (row_seen n) rows
