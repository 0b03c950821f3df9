-- NAMES FOR WAVEFORMS, AND COMMENTS: what a module with them is, and what each wire that they name has in a run.
use Rattle.std.specs.Prelude.{◌≡◌, ℕ, List, All}
use Rattle.kp_ast.specs.declared.tree.Job.{Job}
use Rattle.kp_pipeline.specs.Machine.{State as MachineState}
use Rattle.kp_pipeline.specs.{Trimming.trimmed}
use Rattle.kp_net.specs.{Netlist.Net, Netlist.Input, Netlist.State, Netlist.cells_of, Nodes.at}
use Rattle.kp_implements.specs.Traces.{input_seen, inputs_seen}
use Rattle.kp_design.specs.Spans.{is_alive}
use Rattle.kp_core_ports.specs.{Core.with_added, Extended.IsExtended}
use Rattle.kp_tool.specs.Written.{IsVerilogOf}
use Rattle.kp_core.specs.{Bare.without_comments, Values.moment_in, Values.state_in}
use Rattle.kp_wires.specs.{Truth.Has, declared.wire.Wire.Wire}

-- a text that `pipe` may write for the job, with ports at the end of its header, and lines before its last one
pub record IsPipeWithLines (job : Job) (text : List ℕ) : Type 0 where
  pub plain : List ℕ
  pub ports : List ℕ
  pub lines : List ℕ
  pub written : IsVerilogOf job plain
  pub extended : IsExtended plain ports lines text

-- a text that without its comments is one that `pipe` may write for the job, with ports at the end of its header, and lines before its last one
pub record IsPipeWithComments (job : Job) (text : List ℕ) : Type 0 where
  pub commented : List ℕ
  pub ports : List ℕ
  pub lines : List ℕ
  pub written : IsVerilogOf job (without_comments commented)
  pub added : text ≡ with_added commented ports lines

-- in the cycle after T others of a run, each wire has its signal in the state of the pipelined machine, in which a pipe is 0 past its last use
abbrev pub AllHave : Job → Net → State → MachineState → List Input → Input → (cycles : ℕ) → List Wire → Type 0
AllHave job net s v ins i T wires = All (λ (w : Wire).
    Has job (trimmed (is_alive job) (moment_in job v (inputs_seen job ins) T).state) (input_seen job i) w.stage w.signal (at (cells_of i (state_in net s ins T)) net.nodes w.node.0)) wires
