-- WHAT A PORT SHOWS IN A CYCLE: the value that its line in the module gives it, over the state of the netlist and the inputs of the cycle.
use Rattle.std.specs.Prelude.{◌≡◌, ℕ, ◌-◌, ◌<◌, ◌≤◌, true, List, get_or}
use Rattle.kp_ast.specs.declared.tree.Job.{Job}
use Rattle.kp_pipeline.specs.Machine.{State as MachineState}
use Rattle.kp_pipeline.specs.{Pipeline.Inputs, Pipeline.pipeline_start, Rows.one_if, Rows.pipe, Rows.counts, Rows.state_after as pipeline_after}
use Rattle.kp_pipeline.specs.{Sequential.instruction_before, RightPath.Moment, RightPath.HasRightGuesses}
use Rattle.kp_machine.specs.Machine.{machine_of, start_hints}
use Rattle.kp_net.specs.{Nodes.at, Netlist.Net, Netlist.Input, Netlist.State, Netlist.cells_of, Netlist.row_of, Netlist.states_from}
use Rattle.kp_implements.specs.{Naming.value_of, Anew.trace_from, Traces.no_state, Traces.inputs_seen}
use Rattle.kp_design.specs.Numbers.{target_at}
use Rattle.kp_synth_registers.specs.declared.key.Key.TheVariants.{Pipe}
use Rattle.kp_synth_registers.specs.Holding.{kept_in, word_bit}
use Rattle.kp_core.specs.Beginning.{taken_in}
use Rattle.kp_core_ports.specs.declared.port.Ask.{Ask}
use Rattle.kp_core_ports.specs.declared.port.Ask.TheVariants.{Show, Peek, Load, Probe, Next, Commit}
use Rattle.kp_core_ports.specs.PortTexts.{register_at}

-- A file is read at the address at its port. A line `load F` gives no output.
abbrev pub port_value : Job → Net → Input → State → ℕ → Ask → ℕ
port_value job net i st address (Show t) = value_of net st (target_at job t) 0
port_value job net i st address (Peek t) = value_of net st (target_at job t) address
port_value job net i st address (Load t) = 0
port_value job net i st address (Probe x k) = kept_in job (cells_of i st) (Pipe x k)
port_value job net i st address (Next x k) = at (cells_of i st) net.nodes (register_at net job (Pipe x k)).next.0
port_value job net i st address Commit = one_if (word_bit (row_of net i st).ue (job.stages.value - 1))

-- The state after the first T cycles of a run from the state s on.
abbrev pub state_in : Net → State → List Input → ℕ → State
state_in net s ins T = get_or (states_from net s ins) T no_state

-- The pipelined machine after as many cycles, where the run began with the values v: its state, and the numbers of the instructions in its stages.
abbrev pub moment_in : Job → MachineState → List Inputs → (cycles : ℕ) → Moment
moment_in job v ins T = record {
  state = pipeline_after (machine_of job) (pipeline_start v (start_hints job)) ins T;
  count = counts (machine_of job).stages (pipe (machine_of job) v (start_hints job) ins).rows T;
}

-- Stage k is full then.
abbrev pub IsFull : Job → MachineState → List Inputs → (cycles stage : ℕ) → Type 0
IsFull job v ins T k = ((moment_in job v ins T).state.stage k).full ≡ true

-- No guess that is pending in stage k or in a later one is wrong.
abbrev pub NoneWrong : Job → Net → State → MachineState → List Input → (cycles stage : ℕ) → Type 0
NoneWrong job net s v ins T k =
    (j : ℕ) → k ≤ j → j < job.stages.value → HasRightGuesses (machine_of job) v (taken_in job net s ins) (moment_in job v (inputs_seen job ins) T) j

-- The pipe x of instruction i of the sequential machine, as it is before stage k.
abbrev pub pipe_of : Job → Net → State → MachineState → List Input → (instruction pipe stage : ℕ) → ℕ
pipe_of job net s v ins i x k = (instruction_before (machine_of job) v (taken_in job net s ins) i k).pipes x

-- And of the instruction that is in stage k after T cycles, by the rows of the netlist.
abbrev pub pipe_of_instruction : Job → Net → State → MachineState → List Input → (cycles pipe stage : ℕ) → ℕ
pipe_of_instruction job net s v ins T x k = pipe_of job net s v ins (counts job.stages.value (trace_from job net s ins).rows T k) x k
