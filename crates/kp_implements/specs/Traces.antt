-- THE RUN OF A NETLIST as a run of the machine of a job: its rows, and the values of its registers and files by target.
use Rattle.std.specs.{Prelude.ℕ, Prelude.◌^◌, Prelude.◌%◌, Prelude.◌≡◌, Prelude.List, Prelude.[], Prelude.get_or, Prelude.map, Prelude.false, List.All}
use Rattle.kp_ast.specs.declared.tree.Job.{Job}
use Rattle.kp_pipeline.specs.{Pipeline.Inputs, Rows.Trace}
use Rattle.kp_machine.specs.{Slots.Slot, Slots.samples_of, Words.no_slot}
use Rattle.kp_net.specs.Netlist.{Net, Input, State, run}
use Rattle.kp_sched.specs.Rows.{bit_of, rows_seen}
use Rattle.kp_implements.specs.Naming.{value_shown}

abbrev pub sample : Job → ℕ → Slot
sample job x = get_or (samples_of job.decls) x no_slot

-- The input as the ports of a netlist of a job see it: a stall bit for each stage, and the low bits of each sample, as many as its port has.
abbrev pub input_seen : Job → Input → Inputs
input_seen job i = record {
  ext = bit_of (i.ext % 2 ^ job.stages.value);
  samples = λ x. get_or i.samples x 0 % 2 ^ (sample job x).width;
}

abbrev pub inputs_seen : Job → List Input → List Inputs
inputs_seen job ins = map (input_seen job) ins

-- Inputs that never raise the reset.
abbrev pub AreQuiet : List Input → Type 0
AreQuiet ins = All (λ (i : Input). i.reset ≡ false) ins

abbrev pub no_state : State
no_state = record { regs = []; files = [] }

-- The state after the first T cycles.
abbrev pub state_at : Net → List Input → ℕ → State
state_at net ins T = get_or (run net ins).states T no_state

unfoldable pub trace_of : Job → Net → List Input → Trace
trace_of job net ins = record {
  rows = rows_seen job.stages.value (run net ins).rows;
  visible = λ T t a. value_shown job net (state_at net ins T) t a;
}
