-- WHERE A RUN OF A MODULE BEGINS: at power-up, or after cycles that raise its reset. And the values of the targets from which it begins then.
use Rattle.std.specs.Prelude.{◌≡◌, ℕ, List, ◌∷◌, All, ◌⊎◌}
use Rattle.kp_ast.specs.declared.tree.Job.{Job}
use Rattle.kp_stage.specs.Start.{start_of}
use Rattle.kp_pipeline.specs.Machine.{Samples, State as MachineState}
use Rattle.kp_pipeline.specs.Rows.{taken}
use Rattle.kp_machine.specs.Machine.{machine_of, state_of}
use Rattle.kp_net.specs.Netlist.{Net, Input, State, start_of as net_start}
use Rattle.kp_implements.specs.{Naming.value_shown, Anew.trace_from, Anew.HasMemory, Anew.left_by_reset, Traces.inputs_seen}
use Rattle.kp_core.specs.Loading.{Cycle, LoadsIn, after_cycles, all_loaded}

-- power-up: the start values of the job, with its image
pub record IsPowerUp (net : Net) (job : Job) (s : State) (v : MachineState) : Type 0 where
  pub state : s ≡ net_start net
  pub values : v ≡ state_of job (start_of job)

-- After one or more cycles that raise the reset, whatever the state before them: the start values of the registers, and each word of a file as it was, or as
-- it was loaded last in these cycles.
pub record IsAfterReset (net : Net) (job : Job) (s : State) (v : MachineState) : Type 0 where
  pub before : State
  pub first : Cycle
  pub rest : List Cycle
  pub memory : HasMemory net before
  pub loads : All (LoadsIn job) (first ∷ rest)
  pub state : s ≡ after_cycles net job before (first ∷ rest)
  pub values : v ≡ left_by_reset job (all_loaded (value_shown job net before) (first ∷ rest))

-- A run begins in the state s, with the values v.
abbrev pub Begins : Net → Job → State → MachineState → Type 0
Begins net job s v = IsPowerUp net job s v ⊎ IsAfterReset net job s v

-- The samples that instructions take in a run from there.
abbrev pub taken_in : Job → Net → State → List Input → Samples
taken_in job net s ins = taken (machine_of job) (inputs_seen job ins) (trace_from job net s ins).rows
