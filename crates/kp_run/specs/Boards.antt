-- The specified values after the rows of a run of a job under its own inputs.
use Rattle.std.specs.Prelude.{ℕ, List, length}
use Rattle.kp_base.specs.declared.row.Row.{Row}
use Rattle.kp_ast.specs.declared.tree.Job.{Job}
use Rattle.kp_machine.specs.Machine.{inputs_from}
use Rattle.kp_sched.specs.{Rows.rows_seen, Runs.passes, Runs.due_value}
use Rattle.kp_pipeline.specs.Machine.{State}

-- The number of instructions that target t reflects.
abbrev pub passes_behind : Job → List Row → ℕ → ℕ
passes_behind job rows t = passes job (rows_seen job.stages.value rows) (length rows) t

-- The specified value of target t at address a.
abbrev pub due_behind : Job → List Row → State
due_behind job rows t a = due_value job (inputs_from job 0 (length rows)) (rows_seen job.stages.value rows) (length rows) t a
