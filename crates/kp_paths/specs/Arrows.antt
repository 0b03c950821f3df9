-- THE ARROWS in the row of a read: one from each stage that can be asked for the value, which shows the cell of the table.
use Rattle.std.specs.Prelude.{ℕ, zero, suc, ◌+◌, Bool, true, false, List, [], ◌∷◌, ◌++◌, if◌then◌else◌}
use Rattle.kp_ast.specs.declared.tree.{Job.Job, ReadStmt.ReadStmt}
use Rattle.kp_paths.specs.declared.cell.Cell.{Cell}
use Rattle.kp_paths.specs.declared.cell.Cell.TheVariants.{Reads, Empty, Wait, Guess, Maybe, Bypass}
use Rattle.kp_paths.specs.Table.{cell_at}

-- an arrow shows the cell: the stage isn't that of the read, and can be asked for its value
abbrev pub is_shown : Cell → Bool
is_shown Reads = false
is_shown Empty = false
is_shown Wait = true
is_shown Guess = true
is_shown Maybe = true
is_shown Bypass = true

-- AN ARROW from a stage to that of the read, and the cell that it shows
pub record Arrow : Type 0 where
  pub stage : ℕ
  pub cell : Cell

abbrev pub arrow_of : ℕ → Cell → List Arrow
arrow_of j c = if is_shown c then record { stage = j; cell = c } ∷ [] else []

-- the arrows of a read in stage k, from `count` stages from j on
abbrev pub arrows_from : Job → ReadStmt → (stage from count : ℕ) → List Arrow
arrows_from job r k j zero = []
arrows_from job r k j (suc count) = arrow_of j (cell_at job r k j) ++ arrows_from job r k (j + 1) count

-- THE ARROWS of a read in stage k.
unfoldable pub arrows : Job → ReadStmt → ℕ → List Arrow
arrows job r k = arrows_from job r k 0 job.stages.value
