-- The line of a run that has the pipeline's rows is the one specified for the generated job.
use Rattle.std.proofs.Common.{◌≡◌, ◌∙◌, ℕ, List, length, ap, sym}
use Rattle.kp_base.specs.declared.row.Row.{Row}
use Rattle.kp_pipeline.specs.Rows as law
use Rattle.kp_ast.specs.declared.tree.Job.{Job}
use Rattle.kp_machine.specs.Machine.{inputs_from, pipe_of}
use Rattle.kp_sched.{specs.Rows.rows_seen, specs.Runs.due_value, proofs.Counting.seen_length}
use Rattle.kp_run.specs.Boards.{due_behind}
use Rattle.kp_report.{proofs.Sims.rows_many, specs.Line.totals_of, specs.Line.totals_line, specs.Line.gen_text}
use Rattle.kp_gen.specs.Generated.{gen_job}

pub run_is_generated : (number n : ℕ) (rows : List Row) → rows_seen (gen_job number).stages.value rows ≡ (pipe_of (gen_job number) (inputs_from (gen_job number) 0 n)).rows
    → totals_line number (totals_of (gen_job number) (rows_seen (gen_job number).stages.value rows) (due_behind (gen_job number) rows)) ≡ gen_text number n
unfolding gen_text
run_is_generated number n rows is =
    let job : Job = gen_job number in
    let many : length rows ≡ n = sym (seen_length job.stages.value rows) ∙ ap (λ (l : List law.Row). length l) is ∙ rows_many job n in
    ap (λ (T : ℕ). totals_line number (totals_of job (rows_seen job.stages.value rows) (λ t a. due_value job (inputs_from job 0 T) (rows_seen job.stages.value rows) T t a))) many
    ∙ ap (λ (l : List law.Row). totals_line number (totals_of job l (λ t a. due_value job (inputs_from job 0 n) l n t a))) is
