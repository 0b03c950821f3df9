-- A netlist of a job, and the text of its depths.
use Rattle.std.proofs.Common.{◌≡◌, ◌∙◌, ℕ, Bool, List, [], length, sym, ap, subst, arith}
use Rattle.kp_ast.specs.declared.tree.Job.{Job}
use Rattle.kp_net.specs.Netlist.{Net}
use Rattle.kp_implements.specs.Shows.{Shows}
use Rattle.kp_synth_registers.specs.Keys.{keys_of}
use Rattle.kp_synth.specs.Carrying.{Carries}
use Rattle.kp_wires.specs.{Table.AreWires, declared.wire.Wire.Wire}
use Rattle.kp_depth.specs.{declared.stages.Depths.Depths, Depths.IsDepth, Text.depth_text}
use Rattle.kp_view.specs.Depths.{IsDepthText}

-- it has a register for each key
pub all_registers : (net : Net) (job other : Job) → Carries net job → other ≡ job → length net.parts.regs ≡ length (keys_of other)
all_registers net job other carries same = (carries.runs [] (λ k d l. absurd (omega (arith, l)))).keys ∙ ap (λ (j : Job). length (keys_of j)) (sym same)

-- what was made for a job is what is specified
pub depth_is : (job layout : Job) (given inside : Bool) (net : Net) (wires : List Wire) (d : Depths) (text : List ℕ) → layout ≡ job → given ≡ inside → Shows net job
    → Carries net job → AreWires net layout wires → IsDepth layout net given d → text ≡ depth_text layout net wires d → IsDepthText job inside text
depth_is job layout given inside net wires d text same is shows carries table depth said = record {
  net = net;
  wires = wires;
  depths = d;
  shows = shows;
  carries = carries;
  table = subst (λ (j : Job). AreWires net j wires) same table;
  depth = subst (λ (b : Bool). IsDepth job net b d) is (subst (λ (j : Job). IsDepth j net given d) same depth);
  printed = said ∙ ap (λ (j : Job). depth_text j net wires d) same;
}
