-- THE TEXT OF `depth` for a job: the longest paths of a netlist that shows the pipelined machine of the job and whose registers hold the state of the pipeline,
-- each by its key, with the statements on the paths, by the table of its wires. Nothing is said of a circuit.
use Rattle.std.specs.Prelude.{◌≡◌, ℕ, Bool, List}
use Rattle.kp_ast.specs.declared.tree.Job.{Job}
use Rattle.kp_net.specs.Netlist.{Net}
use Rattle.kp_implements.specs.Shows.{Shows}
use Rattle.kp_synth.specs.Carrying.{Carries}
use Rattle.kp_wires.specs.{Table.AreWires, declared.wire.Wire.Wire}
use Rattle.kp_depth.specs.{declared.stages.Depths.Depths, Depths.IsDepth, Text.depth_text}

pub record IsDepthText (job : Job) (inside : Bool) (text : List ℕ) : Type 0 where
  pub net : Net
  pub wires : List Wire
  pub depths : Depths
  pub shows : Shows net job
  pub carries : Carries net job
  pub table : AreWires net job wires
  pub depth : IsDepth job net inside depths
  pub printed : text ≡ depth_text job net wires depths
