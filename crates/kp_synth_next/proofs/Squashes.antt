-- The meaning of rollback's nodes.
use Rattle.std.proofs.Common.{◌≡◌, ◌∙◌, ℕ, ◌<◌, not, leb, List, ap, arith}
use Rattle.kp_ast.specs.declared.tree.Job.{Job}
use Rattle.kp_pipeline.specs.Pipeline.{PipelineState, Inputs, back, greatest, mismatches}
use Rattle.kp_machine.specs.Machine.{machine_of}
use Rattle.kp_net.specs.{declared.node.NodeId.NodeId, Nodes.Cells, Nodes.at, Nodes.on, Growth.Held, Growth.Wire, Growth.Kept}
use Rattle.kp_net.proofs.Growing.{wire_kept}
use Rattle.kp_engine.specs.Misses.{bit_at}
use Rattle.kp_synth_registers.specs.{declared.outcome.Outcome.Outcome, Holding.Holds, Holding.word_bit, Meaning.IsTest, Meaning.Gives, Meaning.node_at}
use Rattle.kp_synth_registers.proofs.Growth.{says_kept}
use Rattle.kp_synth_next.{specs.declared.control.Control.Control, specs.Control.AllSay, specs.Control.Controls, specs.Control.ShowRow, proofs.Bits.back_same}

pub all_say_kept : (job : Job) (p q : Held) (j : ℕ) (outs : List Outcome) → Kept p q j → AllSay job p outs → AllSay job q outs
all_say_kept job p q j outs a h = record { count = h.count; says = λ k l. says_kept job p q j k _ a (h.says k l) }

greatest_is : (job : Job) (p : Held) (misses : List NodeId) (n : ℕ) → n ≡ job.stages.value
    → ((k : ℕ) → k < job.stages.value → IsTest job p (node_at misses k) (λ st i. mismatches (machine_of job) st i k))
    → (c : Cells) (st : PipelineState) (i : Inputs) → Holds job c st i → greatest (bit_at c p misses) n ≡ back (machine_of job) st i
unfolding IsTest machine_of
greatest_is job p misses n e t c st i h = back_same (machine_of job) st i (bit_at c p misses) n e (λ k l. t k (omega (arith, l, e)) c st i h)

pub back_gives : (job : Job) (p q : Held) (misses : List NodeId) (n : ℕ) (b : NodeId) → n ≡ job.stages.value
    → ((k : ℕ) → k < job.stages.value → IsTest job p (node_at misses k) (λ st i. mismatches (machine_of job) st i k))
    → ((c : Cells) → at c q.nodes b.0 ≡ greatest (bit_at c p misses) n) → Gives job q b (λ st i. back (machine_of job) st i)
unfolding Gives
back_gives job p q misses n b e t v = λ c st i h. v c ∙ greatest_is job p misses n e t c st i h

pub swept_is_test : (job : Job) (p q : Held) (misses swept : List NodeId) (n : ℕ) → n ≡ job.stages.value
    → ((k : ℕ) → k < job.stages.value → IsTest job p (node_at misses k) (λ st i. mismatches (machine_of job) st i k))
    → ((c : Cells) (k : ℕ) → k < n → bit_at c q swept k ≡ not (leb (greatest (bit_at c p misses) n) k))
    → (k : ℕ) → k < job.stages.value → IsTest job q (node_at swept k) (λ st i. not (leb (back (machine_of job) st i) k))
unfolding IsTest
swept_is_test job p q misses swept n e t v k l = λ c st i h.
    v c k (omega (arith, l, e)) ∙ ap (λ (b : ℕ). not (leb b k)) (greatest_is job p misses n e t c st i h)

-- the words of a row
pub show_row : (job : Job) (p q r s : Held) (j k : ℕ) (fulls : List NodeId) (d : Control) (full ue : NodeId) → Kept p q j → Kept q r 1 → Kept r s 1
    → ((x : ℕ) → x < job.stages.value → Wire q (node_at fulls x) 1) → ((x : ℕ) → x < job.stages.value → IsTest job q (node_at fulls x) (λ st i. (st.stage x).full))
    → Controls job p d → Wire r full job.stages.value → Wire s ue job.stages.value
    → ((c : Cells) (x : ℕ) → x < job.stages.value → word_bit (at c r.nodes full.0) x ≡ on c q.nodes (node_at fulls x).0)
    → ((c : Cells) (x : ℕ) → x < job.stages.value → word_bit (at c s.nodes ue.0) x ≡ on c r.nodes (node_at d.updates x).0)
    → ShowRow job s (record { full = full; ue = ue; back = d.back })
unfolding IsTest Gives
show_row job p q r s j k fulls d full ue a b e fw ft h wf wu bf bu = record {
  full_wire = wire_kept r s 1 full _ e wf;
  full_bits = λ c st i m x l. ap (λ (v : ℕ). word_bit v x) (e.same c full.0 wf.inside) ∙ bf c x l ∙ ft x l c st i m;
  ue_wire = wu;
  ue_bits = λ c st i m x l.
      let w = h.updating.wires x l in
      let v = wire_kept p q j (node_at d.updates x) 1 a w in
      bu c x l ∙ b.tests c (node_at d.updates x).0 v.inside ∙ a.tests c (node_at d.updates x).0 w.inside ∙ h.updating.is_test x l c st i m;
  back_wire = wire_kept r s 1 d.back 4 e (wire_kept q r 1 d.back 4 b (wire_kept p q j d.back 4 a h.back_wire));
  back_value = λ c st i m.
      let v = wire_kept p q j d.back 4 a h.back_wire in
      let w = wire_kept q r 1 d.back 4 b v in
      e.same c d.back.0 w.inside ∙ b.same c d.back.0 v.inside ∙ a.same c d.back.0 h.back_wire.inside ∙ h.back_gives c st i m;
}
