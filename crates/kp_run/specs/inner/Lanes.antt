-- The machines after a run: one for each stage, which executes the instructions that the stage has completed, and one more that executes none.
use Rattle.std.specs.Prelude.{◌≡◌, ℕ, zero, suc, ◌+◌, ◌<◌, ◌≤◌, List, [], ◌∷◌, length, get_or, nat_lt, if◌then◌else◌}
use Rattle.std.specs.List.{All}
use Rattle.kp_ast.specs.declared.tree.Job.{Job}
use Rattle.kp_pipeline.specs.Rows.{Row, passed}
use Rattle.kp_machine.specs.{Machine.sequential, Slots.targets_of}
use Rattle.kp_seq.specs.Running.{Running, state}
use Rattle.kp_pipeline.specs.Machine.{Samples, State}

-- the state of machine k
abbrev pub lane_state : List Running → (machine : ℕ) → State
lane_state [] k = λ t a. 0
lane_state (m ∷ ms) zero = state m
lane_state (m ∷ ms) (suc k) = lane_state ms k

-- how many instructions machine k has executed after T of these rows, and after all
abbrev pub passes_after : Job → List Row → (cycles machine : ℕ) → ℕ
passes_after job rows T k = if nat_lt k job.stages.value then passed rows k T else 0

abbrev pub lane_passes : Job → List Row → ℕ → ℕ
lane_passes job rows k = passes_after job rows (length rows) k

-- how many instructions machine k has executed, by the counts of n stages
abbrev pub lane_count : (stages : ℕ) → List ℕ → (machine : ℕ) → ℕ
lane_count n counts k = if nat_lt k n then get_or counts k 0 else 0

-- the machines of a job from number k on, by the counts of its stages
pub record HaveRunFrom (job : Job) (given : Samples) (counts : List ℕ) (k : ℕ) (machines : List Running) : Type 0 where
  pub count : length machines + k ≡ job.stages.value + 1
  pub jobs : All (λ m. m.job ≡ job) machines
  pub states : (j : ℕ) → j < length machines → lane_state machines j ≡ sequential job given (lane_count job.stages.value counts (j + k))

-- the machines of a job after these rows, if instructions read these sample values
pub record HaveRun (job : Job) (given : Samples) (rows : List Row) (machines : List Running) : Type 0 where
  pub count : length machines ≡ job.stages.value + 1
  pub jobs : All (λ m. targets_of m.job.decls ≡ targets_of job.decls) machines
  pub states : (k : ℕ) → k ≤ job.stages.value → lane_state machines k ≡ sequential job given (lane_passes job rows k)
