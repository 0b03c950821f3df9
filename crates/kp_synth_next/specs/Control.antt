-- What the control nodes mean.
use Rattle.std.specs.Prelude.{◌≡◌, ℕ, ◌<◌, ◌≤◌, List, length, get_or, not, leb, false, Option, None}
use Rattle.kp_ast.specs.declared.tree.Job.{Job}
use Rattle.kp_pipeline.specs.Pipeline.{PipelineState, Inputs, next_visible, ue, back, ue as updates, back as rolls_back}
use Rattle.kp_machine.specs.{Slots.targets_of, Slots.is_register, Machine.machine_of}
use Rattle.kp_net.specs.{declared.netlist.WritePort.WritePort, declared.node.NodeId.NodeId, Growth.Held, Growth.Wire, Nodes.Cells, Nodes.at}
use Rattle.kp_synth_registers.specs.{declared.outcome.Outcome.Outcome, Holding.Holds, Holding.word_bit}
use Rattle.kp_synth_registers.specs.Meaning.{IsTest, Gives, Says, node_at}
use Rattle.kp_synth_registers.specs.Keys.{keys_of, key_at, key_width}
use Rattle.kp_design.specs.Numbers.{target_at}
use Rattle.kp_synth_next.specs.declared.control.{Control.Control, RowNodes.RowNodes}
use Rattle.kp_synth_next.specs.Nexts.{outcome_at, NextIs, PortFits, port_word}

-- Each stage has its outcome.
pub record AllSay (job : Job) (p : Held) (outs : List Outcome) : Type 0 where
  pub count : length outs ≡ job.stages.value
  pub says : (k : ℕ) → k < job.stages.value → Says job p k (outcome_at outs k)

-- These nodes are the update enables.
pub record Updating (job : Job) (p : Held) (updates : List NodeId) : Type 0 where
  pub few : job.stages.value ≤ 12
  pub wires : (k : ℕ) → k < job.stages.value → Wire p (node_at updates k) 1
  pub is_test : (k : ℕ) → k < job.stages.value → IsTest job p (node_at updates k) (λ st i. ue (machine_of job) st i k)

-- Where rollback goes, which stages it squashes, and which stages update.
pub record Controls (job : Job) (p : Held) (d : Control) : Type 0 where
  pub back_wire : Wire p d.back 4
  pub back_gives : Gives job p d.back (λ st i. back (machine_of job) st i)
  pub swept_wires : (k : ℕ) → k < job.stages.value → Wire p (node_at d.swept k) 1
  pub swept_test : (k : ℕ) → k < job.stages.value → IsTest job p (node_at d.swept k) (λ st i. not (leb (back (machine_of job) st i) k))
  pub updating : Updating job p d.updates

-- The first next nodes, one for each register in the order of the keys.
pub record NextsFrom (job : Job) (p : Held) (outs : List Outcome) (nexts : List NodeId) : Type 0 where
  pub few : length nexts ≤ length (keys_of job)
  pub wires : (r : ℕ) → r < length nexts → Wire p (node_at nexts r) (key_width job (key_at job r))
  pub next : (c : Cells) (st : PipelineState) (i : Inputs) → Holds job c st i → (r : ℕ) → r < length nexts
      → NextIs job p outs (node_at nexts r) c st i (key_at job r)

-- The outputs with the full bits and the update enables, by their bits.
pub record ShowRow (job : Job) (p : Held) (rows : RowNodes) : Type 0 where
  pub full_wire : Wire p rows.full job.stages.value
  pub full_bits : (c : Cells) (st : PipelineState) (i : Inputs) → Holds job c st i → (k : ℕ) → k < job.stages.value
      → word_bit (at c p.nodes rows.full.0) k ≡ (st.stage k).full
  pub ue_wire : Wire p rows.ue job.stages.value
  pub ue_bits : (c : Cells) (st : PipelineState) (i : Inputs) → Holds job c st i → (k : ℕ) → k < job.stages.value
      → word_bit (at c p.nodes rows.ue.0) k ≡ updates (machine_of job) st i k
  pub back_wire : Wire p rows.back 4
  pub back_value : (c : Cells) (st : PipelineState) (i : Inputs) → Holds job c st i
      → at c p.nodes rows.back.0 ≡ rolls_back (machine_of job) st i

-- The first write ports, by the number of the target. A register has none.
pub record PortsFrom (job : Job) (p : Held) (ports : List (Option WritePort)) : Type 0 where
  pub few : length ports ≤ length (targets_of job.decls)
  pub fits : (t : ℕ) → t < length ports → PortFits job p t (get_or ports t None)
  pub port : (c : Cells) (st : PipelineState) (i : Inputs) → Holds job c st i → (t : ℕ) → t < length ports → is_register (target_at job t) ≡ false
      → (a : ℕ) → next_visible (machine_of job) st i t a ≡ port_word c p (get_or ports t None) a (st.visible t a)
