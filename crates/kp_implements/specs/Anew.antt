-- A NETLIST RESTARTS whenever its reset is raised.
use Rattle.std.specs.Prelude.{◌≡◌, ℕ, ◌<◌, ◌^◌, true, List, [], length, get_or, if◌then◌else◌}
use Rattle.kp_ast.specs.declared.tree.Job.{Job}
use Rattle.kp_stage.specs.Start.{start_of}
use Rattle.kp_pipeline.specs.Machine.{State as MachineState}
use Rattle.kp_pipeline.specs.Rows.{Trace, pipe}
use Rattle.kp_machine.specs.{Slots.is_register, Machine.machine_of, Machine.state_of, Machine.start_hints, Words.target}
use Rattle.kp_net.specs.{Netlist.Net, Netlist.Input, Netlist.State, Netlist.state_after, Netlist.states_from, Netlist.rows_from, Netlist.last_of, Parts.no_file}
use Rattle.kp_sched.specs.{Rows.rows_seen, Runs.ShowsAlike}
use Rattle.kp_implements.specs.{Naming.value_shown, Traces.no_state, Traces.inputs_seen, Traces.AreQuiet}

-- The run of a netlist from a state on, as a run of the machine of a job.
unfoldable pub trace_from : Job → Net → State → List Input → Trace
trace_from job net st ins = record {
  rows = rows_seen job.stages.value (rows_from net st ins);
  visible = λ T t a. value_shown job net (get_or (states_from net st ins) T no_state) t a;
}

-- THE STATE AFTER A RESET of the values of registers and files: each register has its start value again, and the words of a file are unchanged.
abbrev pub left_by_reset : Job → MachineState → MachineState
left_by_reset job s t a = if is_register (target job t) then state_of job (start_of job) t a else s t a

-- In a state each file has a word for each of its addresses, with its width. The registers are arbitrary.
pub record HasMemory (net : Net) (st : State) : Type 0 where
  pub count : length st.files ≡ length net.parts.files
  pub sizes : (f : ℕ) → f < length net.parts.files → length (get_or st.files f []) ≡ 2 ^ (get_or net.parts.files f no_file).address_width
  pub words : (f a : ℕ) → f < length net.parts.files → a < 2 ^ (get_or net.parts.files f no_file).address_width
      → get_or (get_or st.files f []) a 0 < 2 ^ (get_or net.parts.files f no_file).width

-- In whatever state with complete files the reset is raised, at power-up or in a run, the following cycles are those
-- of the pipelined machine that starts with the start values of the registers, and with the contents of the files in
-- this state. Each state of a run has such contents.
pub record BeginsAnew (net : Net) (job : Job) : Type 0 where
  pub memory : (ins : List Input) → HasMemory net (last_of net ins)
  pub runs : (st : State) (i : Input) (ins : List Input) → HasMemory net st → i.reset ≡ true → AreQuiet ins
      → ShowsAlike job (trace_from job net (state_after net i st) ins)
      (pipe (machine_of job) (left_by_reset job (value_shown job net st)) (start_hints job) (inputs_seen job ins))
