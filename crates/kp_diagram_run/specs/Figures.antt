-- The run of a job that its diagram shows.
use Rattle.std.specs.Prelude.{◌≡◌, ℕ, ◌<◌, List, length, get_or}
use Rattle.kp_base.specs.declared.row.Row as masks
use Rattle.kp_ast.specs.declared.tree.Job.{Job}
use Rattle.kp_stage.specs.Start.{stall_word}
use Rattle.kp_machine.specs.Machine.{inputs_from, pipe_of}
use Rattle.kp_sched.specs.Rows.{rows_seen}
use Rattle.kp_pipeline.specs.Rows.{Row}
use Rattle.kp_diagram.specs.Claims.{stalls_of}
use Rattle.kp_diagram_text.specs.Figures.{Figure, figure_from}

-- The rows and the stall words of n cycles of the pipelined machine of a job, under the job's own stall words and samples.
pub record IsRunOf (job : Job) (n : ℕ) (given : List masks.Row) (listed : List ℕ) : Type 0 where
  pub rows : rows_seen job.stages.value given ≡ (pipe_of job (inputs_from job 0 n)).rows
  pub count : length given ≡ n
  pub many : length listed ≡ n
  pub words : (T : ℕ) → T < n → get_or listed T 0 ≡ stall_word job T

-- The rows of that run.
abbrev pub job_rows : ℕ → Job → List Row
job_rows n job = (pipe_of job (inputs_from job 0 n)).rows

-- THE FIGURE of a job, over n cycles of that run, with these names of its stages.
abbrev pub job_figure : List (List ℕ) → ℕ → Job → Figure
job_figure names n job = figure_from job.name.name names job.stages.value (stalls_of (inputs_from job 0 n)) (job_rows n job)
