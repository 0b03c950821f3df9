-- WHAT THE REGISTERS OF A NETLIST HOLD, in each state of a run from its start, and of a run from a reset on: register r that of key r of the job's
-- tables, with the state of the pipeline (`Holds` of kp_synth_registers).
use Rattle.std.specs.Prelude.{◌≡◌, ℕ, true, List}
use Rattle.kp_ast.specs.declared.tree.Job.{Job}
use Rattle.kp_stage.specs.Start.{start_of}
use Rattle.kp_machine.specs.Machine.{state_of}
use Rattle.kp_net.specs.Netlist.{Net, Input, State, start_of as net_start, state_after}
use Rattle.kp_synth_next.specs.Shows.{HoldsFrom}
use Rattle.kp_implements.specs.{Naming.value_shown, Traces.AreQuiet, Anew.HasMemory, Anew.left_by_reset}

pub record Carries (net : Net) (job : Job) : Type 0 where
  pub runs : (ins : List Input) → AreQuiet ins → HoldsFrom net job (net_start net) (state_of job (start_of job)) ins
  pub anew : (st : State) (i : Input) (ins : List Input) → HasMemory net st → i.reset ≡ true → AreQuiet ins
      → HoldsFrom net job (state_after net i st) (left_by_reset job (value_shown job net st)) ins
