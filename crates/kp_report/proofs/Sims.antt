-- The text of a run that has the pipeline's rows is the one specified for `sim`.
use Rattle.std.proofs.Common.{◌≡◌, ◌∙◌, ℕ, List, length, ap, sym}
use Rattle.kp_base.specs.declared.row.Row.{Row}
use Rattle.kp_ast.specs.declared.tree.Job.{Job}
use Rattle.kp_stage.specs.Start.{start_of}
use Rattle.kp_pipeline.{specs.Pipeline.pipeline_start, proofs.Taken.rows-length}
use Rattle.kp_pipeline.specs.Rows as law
use Rattle.kp_machine.specs.Machine.{machine_of, state_of, start_hints, inputs_from, pipe_of}
use Rattle.kp_sched.{specs.Rows.rows_seen, specs.Runs.due_value, proofs.Counting.seen_length}
use Rattle.kp_run.{specs.Boards.due_behind, proofs.Legal.inputs_many}
use Rattle.kp_report.specs.Runs.{run_text, sim_text}

-- a row for each cycle
pub rows_many : (job : Job) (n : ℕ) → length (pipe_of job (inputs_from job 0 n)).rows ≡ n
rows_many job n =
    rows-length (machine_of job) (pipeline_start (state_of job (start_of job)) (start_hints job)) (inputs_from job 0 n) ∙ inputs_many job 0 n

pub run_is_sim : (job : Job) (n : ℕ) (rows : List Row) → rows_seen job.stages.value rows ≡ (pipe_of job (inputs_from job 0 n)).rows
    → run_text job (rows_seen job.stages.value rows) (due_behind job rows) ≡ sim_text n job
unfolding sim_text
run_is_sim job n rows is =
    let many : length rows ≡ n = sym (seen_length job.stages.value rows) ∙ ap (λ (l : List law.Row). length l) is ∙ rows_many job n in
    ap (λ (T : ℕ). run_text job (rows_seen job.stages.value rows) (λ t a. due_value job (inputs_from job 0 T) (rows_seen job.stages.value rows) T t a)) many
    ∙ ap (λ (l : List law.Row). run_text job l (λ t a. due_value job (inputs_from job 0 n) l n t a)) is
