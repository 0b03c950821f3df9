-- What is printed about the run of a generated job is as specified.
use Rattle.std.proofs.Common.{◌≡◌, ◌∙◌, ℕ, List, sym, subst}
use Rattle.kp_base.specs.declared.row.Row.{Row}
use Rattle.kp_ast.specs.declared.tree.Job.{Job}
use Rattle.kp_machine.specs.Machine.{pipe_of, inputs_from}
use Rattle.kp_sched.specs.Rows.{rows_seen}
use Rattle.kp_run.specs.Boards.{due_behind}
use Rattle.kp_gen.specs.Generated.{gen_job}
use Rattle.kp_report.{specs.Line.totals_of, specs.Line.totals_line, specs.Line.gen_text, proofs.Generated.run_is_generated}

pub summed_is_due : (number count : ℕ) (job opened : Job) (rows : List Row) → job ≡ gen_job number → opened ≡ job
    → rows_seen job.stages.value rows ≡ (pipe_of job (inputs_from job 0 count)).rows
    → totals_line number (totals_of opened (rows_seen opened.stages.value rows) (due_behind opened rows)) ≡ gen_text number count
summed_is_due number count job opened rows made same is =
    subst (λ (j : Job). totals_line number (totals_of j (rows_seen j.stages.value rows) (due_behind j rows)) ≡ gen_text number count) (sym (same ∙ made))
    (run_is_generated number count rows (subst (λ (j : Job). rows_seen j.stages.value rows ≡ (pipe_of j (inputs_from j 0 count)).rows) made is))
