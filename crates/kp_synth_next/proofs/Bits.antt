-- The meaning of the nodes of guesses and of the control nodes.
use Rattle.std.proofs.Common.{◌≡◌, ◌∙◌, ℕ, zero, suc, ◌<◌, Bool, not, ◌&&◌, ◌==◌, leb, List, set, length, refl, sym, ap, subst, arith, eqb-true}
use Rattle.std.proofs.{Math.Bool.not-not, lemmas.Bool.eqb-false, lemmas.List.get_or-set_same, lemmas.List.get_or-set_other}
use Rattle.kp_pipeline.specs.Machine.{Machine}
use Rattle.kp_pipeline.specs.Pipeline.{PipelineState, Inputs, ue, stall, back, greatest, mismatches}
use Rattle.kp_net.specs.{declared.node.NodeId.NodeId, Nodes.Cells, Nodes.at, Nodes.on, Growth.Held}

pub test_kept : (c : Cells) (p : Held) (n : NodeId) (v : ℕ) → at c p.nodes n.0 ≡ v → on c p.nodes n.0 ≡ (v == 1)
unfolding on
test_kept c p n v e = ap (λ (x : ℕ). x == 1) e

-- the update enable of a stage
pub updates : (m : Machine) (st : PipelineState) (i : Inputs) (k : ℕ) (f s w : Bool) → f ≡ (st.stage k).full → s ≡ stall m st i k → w ≡ not (leb (back m st i) k)
    → (f && (not s && not w)) ≡ ue m st i k
unfolding ue
updates m st i k f s w a b d = rw (a, b, d, not-not (leb (back m st i) k)) refl

greatest_same : (f g : ℕ → Bool) (n : ℕ) → ((k : ℕ) → k < n → f k ≡ g k) → greatest f n ≡ greatest g n
greatest_same f g zero e = refl
greatest_same f g (suc n) e =
    let a : f n ≡ g n = e n (omega arith) in
    let b : greatest f n ≡ greatest g n = greatest_same f g n (λ k l. e k (omega arith)) in
    rw (a, b) refl

pub back_same : (m : Machine) (st : PipelineState) (i : Inputs) (f : ℕ → Bool) (n : ℕ) → n ≡ m.stages → ((k : ℕ) → k < n → f k ≡ mismatches m st i k) → greatest f n ≡ back m st i
unfolding back
back_same m st i f n z e = greatest_same f (mismatches m st i) n e ∙ ap (greatest (mismatches m st i)) z
