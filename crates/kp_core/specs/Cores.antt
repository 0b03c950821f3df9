-- WHAT A MODULE WITH PORTS DOES, in every run.
use Rattle.std.specs.Prelude.{◌≡◌, ℕ, List, Ok}
use Rattle.kp_ast.specs.declared.tree.Job.{Job}
use Rattle.kp_pipeline.specs.Machine.{State as MachineState}
use Rattle.kp_pipeline.specs.{Pipeline.Inputs, Rows.Trace}
use Rattle.kp_net.specs.Netlist.{Input, State}
use Rattle.kp_implements.specs.{Traces.inputs_seen, Traces.AreQuiet, Anew.trace_from}
use Rattle.kp_frontend.specs.Judging.{JudgesHead}
use Rattle.kp_core_ports.specs.{declared.port.Port.Port, Ports.ports_of}
use Rattle.kp_core.specs.{Beginning.Begins, Due.IsCoreOf}
use Rattle.kp_core.specs.declared.request.Form.TheVariants.{Module}

-- The text is the module of the input's job, with the ports that the lines after it ask for. The fact holds of each run of its netlist, from power-up on and
-- from each reset on, with whatever is loaded into its files while the reset is raised, until the reset is raised again.
pub record IsCoreWith (Fact : Job → MachineState → List Inputs → Trace → Type 0) (input text : List ℕ) : Type 0 where
  pub job : Job
  pub rest : ℕ
  pub judged : JudgesHead input (Ok (job, rest))
  pub ports : List Port
  pub lines : ports_of job input rest ≡ Ok ports
  pub core : IsCoreOf Module job ports text
  pub holds : (s : State) (v : MachineState) (ins : List Input) → Begins core.net job s v → AreQuiet ins → Fact job v (inputs_seen job ins) (trace_from job core.net s ins)
