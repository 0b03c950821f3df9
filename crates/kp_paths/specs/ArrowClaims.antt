-- WHAT THE ARROWS SAY: they are the cells of the table.
use Rattle.std.specs.{Prelude.◌≡◌, Prelude.◌<◌, Prelude.ℕ, Prelude.true, List.Contains}
use Rattle.kp_ast.specs.declared.tree.{Job.Job, ReadStmt.ReadStmt}
use Rattle.kp_paths.specs.{Table.cell_at, Arrows.Arrow, Arrows.arrows, Arrows.is_shown}

-- In the row of each read in stage k:
pub record ShowsCells (job : Job) : Type 0 where
  -- where the table has `bypass`, `maybe`, `wait` or `guess` for a stage, there is an arrow from it that shows this cell
  pub all : (r : ReadStmt) (k j : ℕ) → j < job.stages.value → is_shown (cell_at job r k j) ≡ true
      → Contains (arrows job r k) (record { stage = j; cell = cell_at job r k j })
  -- and there is no other arrow: each is from a stage for which the table has that cell
  pub only : (r : ReadStmt) (k : ℕ) (a : Arrow) → Contains (arrows job r k) a
      → (a.stage < job.stages.value) × (is_shown a.cell ≡ true) × (cell_at job r k a.stage ≡ a.cell)
