-- The text of a run, in terms of what is stored of it.
use Rattle.std.specs.Prelude.{ℕ, List, ◌++◌, Some}
use Rattle.kp_base.specs.declared.row.Row.{Row}
use Rattle.kp_ast.specs.declared.tree.Job.{Job}
use Rattle.kp_sched.specs.{Lines.row_lines, Rows.rows_seen}
use Rattle.kp_run.specs.Boards.{due_behind, passes_behind}
use Rattle.kp_report.specs.{Runs.count_line, States.Behind, States.state_lines}

-- the number of instructions that each target's value reflects
abbrev pub behind : Job → List Row → Behind
behind job rows t = Some (passes_behind job rows t)

-- what follows the rows of n stages
abbrev pub rest_text : ℕ → Job → List Row → List ℕ
rest_text n job rows = count_line n (rows_seen n rows) ++ state_lines 0 (behind job rows) (due_behind job rows) job.decls

abbrev pub board_text : ℕ → Job → List Row → List ℕ
board_text n job rows = row_lines 0 (rows_seen n rows) ++ rest_text n job rows
