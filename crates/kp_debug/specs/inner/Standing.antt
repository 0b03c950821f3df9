-- A session over a netlist of a job.
use Rattle.std.specs.Prelude.{◌≡◌, ℕ, ◌+◌, ◌-◌, ◌<◌, ◌≤◌, true, false, length}
use Rattle.kp_bits.specs.Word.{Word}
use Rattle.kp_ast.specs.declared.tree.{Decl.Decl, Job.Job}
use Rattle.kp_ast.specs.declared.tree.Decl.TheVariants as decls
use Rattle.kp_pipeline.specs.Rows.{Trace}
use Rattle.kp_machine.specs.{Slots.targets_of, Slots.is_register, Words.target}
use Rattle.kp_net.specs.Netlist.{Net}
use Rattle.kp_debug.specs.{Sessions.Debugged, Sessions.state_there, Inspecting.all_cycles, Inspecting.has_value, Inspecting.first_from}
use Rattle.kp_run.specs.Cycles.{inputs_to, own_trace}
use Rattle.kp_report.specs.States.{State}
use Rattle.kp_implements.specs.{Naming.register_of, Naming.file_of, Naming.value_shown, Shows.IsOfJob, Shows.Shows}

-- it steps through the run of the job's own inputs
pub record IsUnderWay (job : Job) (d : Debugged) : Type 0 where
  pub of_job : IsOfJob d.net job
  pub inputs : d.inputs ≡ inputs_to job all_cycles
  pub within : d.cycle ≤ all_cycles

-- the run that it steps through, and the state in the current cycle
abbrev pub run_of : Job → Debugged → Trace
run_of job d = own_trace job d.net all_cycles

abbrev pub state_seen : Job → Debugged → State
state_seen job d = value_shown job d.net (state_there d)

-- this is the number of the register of target t, or of its file
pub record IsRegisterOf (job : Job) (net : Net) (t number : ℕ) : Type 0 where
  pub there : t < length (targets_of job.decls)
  pub kind : is_register (target job t) ≡ true
  pub is : number ≡ register_of net (target job t)

pub record IsFileOf (job : Job) (net : Net) (t number : ℕ) : Type 0 where
  pub there : t < length (targets_of job.decls)
  pub kind : is_register (target job t) ≡ false
  pub is : number ≡ file_of net (target job t)

-- a search from there by at most `left` cycles has moved on by k of them
pub record IsSearched (job : Job) (d : Debugged) (t : ℕ) (v : Word) (left k : ℕ) (s : Debugged) : Type 0 where
  pub at : s ≡ record d { cycle = d.cycle + k }
  pub rest : first_from (has_value (run_of job d) t v) d.cycle left ≡ first_from (has_value (run_of job d) t v) (d.cycle + k) (left - k)

-- a file has addresses
abbrev pub HasAddresses : Decl → Type 0
HasAddresses (decls.File n width address) = 1 ≤ address.value
HasAddresses _ = Unit {0}

-- the netlist of the session implements the machine of the job
pub record IsInspection (job : Job) (net : Net) (d : Debugged) : Type 0 where
  pub net_is : d.net ≡ net
  pub shows : Shows net job
  pub under : IsUnderWay job d
