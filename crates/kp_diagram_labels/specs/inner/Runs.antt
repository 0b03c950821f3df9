-- The sequential machine of a job after some instructions.
use Rattle.std.specs.Prelude.{◌≡◌, ℕ, List}
use Rattle.kp_ast.specs.declared.tree.Job.{Job}
use Rattle.kp_pipeline.specs.Machine.{Samples}
use Rattle.kp_machine.specs.Machine.{sequential, values_in}
use Rattle.kp_run.specs.Columns.{Taken, row_taken}
use Rattle.kp_seq.specs.Running.{Running, state}

-- the sample values that instructions read
abbrev pub given : List Taken → Samples
given columns i = values_in (row_taken columns i)

-- a machine of a job that has executed i instructions
pub record HasRun (job : Job) (values : Samples) (i : ℕ) (m : Running) : Type 0 where
  pub job_is : m.job ≡ job
  pub state_is : state m ≡ sequential job values i
