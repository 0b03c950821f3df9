use Rattle.std.proofs.Common.{◌≡◌, ◌<◌, ℕ, length}
use Rattle.kp_image.specs.Feeds.{row_in}
use Rattle.kp_run.specs.Columns.{HasColumn}
use Rattle.kp_run.proofs.columns.columns_of.Given as goal

abbrev pub invariant-loop-x : goal.invariant-loop-x
invariant-loop-x l =
    (length l.columns.items ≡ l.x)
    × ((j : ℕ) → j < l.x → HasColumn (row_in l.inputs) l.stages.items l.tree.stages.value l.rows j l.columns.items)
