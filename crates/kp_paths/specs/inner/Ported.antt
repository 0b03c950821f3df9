-- A cell from what the tables of a design say of its target.
use Rattle.std.specs.Prelude.{ℕ, Bool, not, ◌&&◌, ◌||◌, ◌==◌, nat_le, nat_lt, if◌then◌else◌, Option, Some, None}
use Rattle.kp_design.specs.declared.layout.Port.{Port}
use Rattle.kp_paths.specs.declared.cell.Cell.{Cell, TheVariants.Reads, TheVariants.Empty, TheVariants.Maybe, TheVariants.Bypass}
use Rattle.kp_paths.specs.Cells.{unmet}

-- of a target that is written
abbrev pub had_cell : Port → Bool → ℕ → (some sure : Bool) → Cell
had_cell p guessed j some sure =
    if not (nat_le p.known j) then unmet guessed
    else (if sure || (j == p.write) then Bypass
    else (if some then Maybe
    else unmet guessed))

abbrev pub later_cell : Option Port → Bool → ℕ → ℕ → (some sure : Bool) → Cell
later_cell None guessed k j some sure = Empty
later_cell (Some p) guessed k j some sure = if not (nat_lt k j && nat_le j p.write) then Empty else had_cell p guessed j some sure

abbrev pub cell_by : Option Port → Bool → ℕ → ℕ → (some sure : Bool) → Cell
cell_by port guessed k j some sure = if j == k then Reads else later_cell port guessed k j some sure
