-- The sequential machines that run in lockstep with a netlist.
use Rattle.std.specs.Prelude.{◌≡◌, ℕ, suc, ◌+◌, ◌<◌, List, length, get_or, map, nat_lt, if◌then◌else◌, true, false, Bool}
use Rattle.std.specs.List.{All}
use Rattle.kp_ast.specs.declared.tree.Job.{Job}
use Rattle.kp_pipeline.specs.Rows.{Row, passed}
use Rattle.kp_machine.specs.{Machine.sequential, Machine.values_in, Slots.targets_of}
use Rattle.kp_run.specs.{Columns.Taken, Columns.row_taken, Homes.home_of}
use Rattle.kp_seq.specs.{Running.Running, Running.state, Recorded.record_of}
use Rattle.kp_pipeline.specs.Machine.{Samples, State}

-- the sample values that instructions read
abbrev pub given : List Taken → Samples
given columns i = values_in (row_taken columns i)

-- How many instructions machine k has executed after T of these rows: those that stage k has completed. The machine after those of the stages
-- executes none.
abbrev pub ran : ℕ → List Row → (cycles stage : ℕ) → ℕ
ran n rows T k = if nat_lt k n then passed rows k T else 0

-- Machine k has the value of some target.
abbrev pub IsHome : Job → ℕ → Type 0
IsHome job k = (t : ℕ) × (t < length (targets_of job.decls)) × (home_of job t ≡ k)

-- These marks say which machines have one.
abbrev pub AreNeeded : Job → List Bool → Type 0
AreNeeded job needed = (length needed ≡ job.stages.value + 1) × ((t : ℕ) → t < length (targets_of job.decls) → get_or needed (home_of job t) false ≡ true)

-- A machine that has executed i instructions: its state, and its record of the last of them.
pub record HasRun (job : Job) (values : Samples) (i : ℕ) (m : Running) : Type 0 where
  pub state_is : state m ≡ sequential job values i
  pub last_is : (j : ℕ) → i ≡ suc j → m.last ≡ record_of job (sequential job values j) (values j)

-- The machines of a job after T of these rows. Those that have the value of no target may be in any state.
pub record HaveRun (job : Job) (values : Samples) (rows : List Row) (T : ℕ) (machines : List Running) : Type 0 where
  pub count : length machines ≡ job.stages.value + 1
  pub jobs : All (λ m. m.job ≡ job) machines
  pub each : (k : ℕ) (d : Running) → k < length machines → IsHome job k → HasRun job values (ran job.stages.value rows T k) (get_or machines k d)

-- The same if the first k of them have executed row T too.
pub record HaveRunFirst (job : Job) (values : Samples) (rows : List Row) (T k : ℕ) (machines : List Running) : Type 0 where
  pub count : length machines ≡ job.stages.value + 1
  pub jobs : All (λ m. m.job ≡ job) machines
  pub each : (j : ℕ) (d : Running) → j < length machines → IsHome job j
      → HasRun job values (ran job.stages.value rows (if nat_lt j k then T + 1 else T) j) (get_or machines j d)

-- The value of a target in the machines: that in the machine of the target.
abbrev pub due_by : Job → List Running → State
due_by job machines t = get_or (map state machines) (home_of job t) (λ s a. 0) t
