-- The words of the targets of a job, and the state after instructions.
use Rattle.std.specs.Prelude.{ℕ, ◌^◌, ◌<◌, List, [], ◌∷◌, length, get_or, slice_index}
use Rattle.kp_bits.specs.Word.{Word}
use Rattle.kp_ast.specs.declared.tree.Job.{Job}
use Rattle.kp_pipeline.specs.Sequential.{exec}
use Rattle.kp_machine.specs.{Machine.machine_of, Machine.values_in, Slots.Slot, Slots.targets_of}
use Rattle.kp_pipeline.specs.Machine.{State, Samples}

-- the default for a target that doesn't exist
abbrev pub no_slot : Slot
no_slot = record { name = []; width = 0; address = 0 }

abbrev pub target : Job → ℕ → Slot
target job t = get_or (targets_of job.decls) t no_slot

-- the job has a target of this number, with this address; a register has only address 0
pub record HasWord (job : Job) (t a : ℕ) : Type 0 where
  pub target : t < length (targets_of job.decls)
  pub address : a < 2 ^ (get_or (targets_of job.decls) t no_slot).address

-- the words of all targets as a state: the value of each target at each address, and 0 if there is none
abbrev pub state_in : List (List ℕ) → State
state_in words t a = slice_index (get_or words t []) a

-- the state after one instruction with an input vector
abbrev pub after_one : Job → State → List Word → State
after_one job s row = exec (machine_of job) s (values_in row)

-- the state of the machine of a job after a step for each of these input vectors
abbrev pub after_rows : Job → State → List (List Word) → State
after_rows job s [] = s
after_rows job s (row ∷ rows) = after_rows job (after_one job s row) rows

-- the values of the samples in a list of input vectors, and 0 past its end
abbrev pub given_by : List (List Word) → Samples
given_by rows i = values_in (get_or rows i [])
