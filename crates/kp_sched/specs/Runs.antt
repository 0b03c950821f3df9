-- REQUIREMENTS ON A RUN OF A JOB'S MACHINE, restricted to the words that exist: those of registers and files.
use Rattle.std.specs.Prelude.{◌≡◌, ℕ, ◌≤◌, List, length, if◌then◌else◌}
use Rattle.kp_base.specs.declared.row.Row as masks
use Rattle.kp_ast.specs.declared.tree.Job.{Job}
use Rattle.kp_pipeline.specs.Machine.{State}
use Rattle.kp_pipeline.specs.{Pipeline.Inputs, Rows.Row, Rows.Trace, Rows.passed, Rows.taken}
use Rattle.kp_machine.specs.{Machine.machine_of, Machine.pipe_of, Machine.sequential, Words.HasWord}
use Rattle.kp_sched.specs.{Rows.rows_seen, Monitors.Kept, Monitors.HasSeen}

-- How many instructions target t reflects after T rows: those that have passed its write stage, and none if it has no result.
unfoldable pub passes : Job → List Row → (cycles target : ℕ) → ℕ
passes job rows T t = if (machine_of job).has_result t then passed rows ((machine_of job).write_stage t) T else 0

-- The required value of target t at address a after T cycles of a run with these inputs and rows: its value in the
-- sequential machine after that number of instructions, each of which takes the samples of the cycle in which it
-- leaves their stage.
unfoldable pub due_value : Job → List Inputs → List Row → (cycles : ℕ) → State
due_value job ins rows T t a = sequential job (taken (machine_of job) ins rows) (passes job rows T t) t a

-- LEGAL: after any number of cycles each register, and each word of a file, has that value.
abbrev pub IsLegal : Job → List Inputs → Trace → Type 0
IsLegal job ins trace =
    (T t a : ℕ) → T ≤ length trace.rows → HasWord job t a → trace.visible T t a ≡ due_value job ins trace.rows T t a

-- A trace has the rows of another one, and its values of registers and files.
pub record ShowsAlike (job : Job) (a b : Trace) : Type 0 where
  pub rows : a.rows ≡ b.rows
  pub values : (T t x : ℕ) → T ≤ length a.rows → HasWord job t x → a.visible T t x ≡ b.visible T t x

-- The rows of a monitor of the job's stages, as masks, are the rows of the pipeline with these inputs.
pub record HasWatched (job : Job) (m : Kept) (ins : List Inputs) (given : List masks.Row) : Type 0 where
  pub stages : m.stages ≡ (machine_of job).stages
  pub seen : HasSeen m given
  pub rows : rows_seen m.stages given ≡ (pipe_of job ins).rows
