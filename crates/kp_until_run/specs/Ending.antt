-- WHERE A RUN ENDS: the run of the pipelined machine of a job under its own stall words and samples, and the first condition that holds of the sequential
-- machine after the instructions that have retired.
use Rattle.std.specs.Prelude.{◌≡◌, ℕ, ◌+◌, ◌-◌, ◌<◌, ◌≤◌, List, length, get_or, Option, Some, None}
use Rattle.kp_ast.specs.declared.tree.Job.{Job}
use Rattle.kp_pipeline.specs.Rows.{Row, passed, taken}
use Rattle.kp_machine.specs.Machine.{machine_of, inputs_from, pipe_of, sequential}
use Rattle.kp_until.specs.Untils.{AreSame, Holds, Repeats}
use Rattle.kp_until.specs.declared.until.Until.{Until, TheVariants.Halt}
use Rattle.kp_pipeline.specs.Machine.{State}

-- the rows of n cycles of the pipelined machine of a job
abbrev pub own_rows : Job → ℕ → List Row
own_rows job n = (pipe_of job (inputs_from job 0 n)).rows

-- how many instructions retire in n cycles: those that leave the last stage
abbrev pub retired_in : Job → ℕ → ℕ
retired_in job n = passed (own_rows job n) (job.stages.value - 1) n

-- The states of the sequential machine, by the number of instructions. Each takes the samples of the cycle in which it leaves their stage, in a run over n
-- cycles, and 0 if there is no such cycle.
abbrev pub states_in : Job → (cycles : ℕ) → (ℕ → State)
states_in job n = sequential job (taken (machine_of job) (inputs_from job 0 n) (own_rows job n))

-- no condition holds after up to n instructions
abbrev pub NoneTo : Job → (ℕ → State) → List Until → (instructions : ℕ) → Type 0
NoneTo job s untils n = (i m : ℕ) → i ≤ n → m < length untils → Holds job s i (get_or untils m Halt) → ⊥

-- The condition with number k is the first of these that holds: after j instructions, and none holds after fewer, nor an earlier one after as many.
pub record IsFirst (job : Job) (s : ℕ → State) (untils : List Until) (j k : ℕ) : Type 0 where
  pub which : k < length untils
  pub holds : Holds job s j (get_or untils k Halt)
  pub earlier : (i m : ℕ) → i < j → m < length untils → Holds job s i (get_or untils m Halt) → ⊥
  pub before : (m : ℕ) → m < k → Holds job s j (get_or untils m Halt) → ⊥

-- the number of instructions that is counted for a condition which holds after j: a state that repeats is counted where it is first
abbrev pub CountsFor : Job → (ℕ → State) → Until → (instructions count : ℕ) → Type 0
CountsFor job s Halt j count = (p : ℕ) × Repeats job s j p × (count + p ≡ j)
CountsFor job s _ j count = count ≡ j

-- MET: condition k is the first that holds, and `cycles` is the least number of cycles in which as many instructions retire as are counted for it. `looked`
-- is a number of cycles in which all instructions retire that the condition was looked for in.
pub record IsMet (job : Job) (untils : List Until) (limit k retired cycles : ℕ) (state : State) : Type 0 where
  pub looked : ℕ
  pub within : looked ≤ limit
  pub seen : ℕ
  pub first : IsFirst job (states_in job looked) untils seen k
  pub count : CountsFor job (states_in job looked) (get_or untils k Halt) seen retired
  pub ran : seen ≤ retired_in job looked
  pub reached : retired_in job cycles ≡ retired
  pub least : (n : ℕ) → n < cycles → retired_in job n < retired
  pub same : AreSame job state (states_in job looked retired)

-- THE LIMIT: no condition holds up to the instructions that retire in as many cycles.
pub record IsLimit (job : Job) (untils : List Until) (limit retired cycles : ℕ) (state : State) : Type 0 where
  pub all : cycles ≡ limit
  pub reached : retired ≡ retired_in job limit
  pub none : NoneTo job (states_in job limit) untils retired
  pub same : AreSame job state (states_in job limit retired)

abbrev pub Ends : Job → List Until → ℕ → Option ℕ → (retired cycles : ℕ) → State → Type 0
Ends job untils limit (Some k) retired cycles state = IsMet job untils limit k retired cycles state
Ends job untils limit None retired cycles state = IsLimit job untils limit retired cycles state
