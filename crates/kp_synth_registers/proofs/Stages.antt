-- The meaning of the nodes that read a state.
use Rattle.std.proofs.Common.{◌≡◌, ◌∙◌, ℕ, zero, suc, ◌<◌, true, false, ◌==◌, length, refl, sym, ap, arith}
use Rattle.kp_ast.specs.declared.tree.Job.{Job}
use Rattle.kp_pipeline.specs.Pipeline.{StageState}
use Rattle.kp_machine.specs.Slots.{targets_of, pipes_of}
use Rattle.kp_net.specs.{declared.node.NodeId.NodeId, Nodes.Cells, Nodes.at, Nodes.on, Growth.Held}
use Rattle.kp_synth_registers.specs.declared.key.Key.TheVariants.{Full, Pipe, Valid, Value}
use Rattle.kp_design.specs.Spans.{is_kept, is_piped, is_stored}
use Rattle.kp_synth_registers.specs.{Holding.kept_in, Holding.optional, Meaning.IsTest, Meaning.Gives, Meaning.MayGive}

test_of : (c : Cells) (p : Held) (n : NodeId) (v : ℕ) → at c p.nodes n.0 ≡ v → on c p.nodes n.0 ≡ (v == 1)
unfolding on
test_of c p n v e = ap (λ (x : ℕ). x == 1) e

later : (k : ℕ) → (k ≡ 0 → ⊥) → 0 < k
later zero d = absurd (d refl)
later (suc k) d = omega arith

-- stage 0
pub full_zero : (job : Job) (p : Held) (n : NodeId) (k : ℕ) → k ≡ 0 → ((c : Cells) → on c p.nodes n.0 ≡ true) → IsTest job p n (λ st i. (st.stage k).full)
unfolding IsTest
full_zero job p n k z e = λ c st i h. e c ∙ sym (ap (λ (s : StageState). s.full) (ap st.stage z ∙ h.first))

pub pipe_zero : (job : Job) (p : Held) (n : NodeId) (x k : ℕ) → k ≡ 0 → ((c : Cells) → at c p.nodes n.0 ≡ 0) → Gives job p n (λ st i. (st.stage k).instruction.pipes x)
unfolding Gives
pipe_zero job p n x k z e = λ c st i h. e c ∙ sym (ap (λ (s : StageState). s.instruction.pipes x) (ap st.stage z ∙ h.first))

pub result_zero : (job : Job) (p : Held) (n v : NodeId) (t k : ℕ) → k ≡ 0 → ((c : Cells) → on c p.nodes n.0 ≡ false) → MayGive job p n v (λ st i. (st.stage k).instruction.results t)
unfolding MayGive
result_zero job p n v t k z e = λ c st i h. ap (λ b. optional b (at c p.nodes v.0)) (e c) ∙ sym (ap (λ (s : StageState). s.instruction.results t) (ap st.stage z ∙ h.first))

-- a later stage
pub full_kept : (job : Job) (p : Held) (n : NodeId) (k : ℕ) → (k ≡ 0 → ⊥) → k < job.stages.value → ((c : Cells) → at c p.nodes n.0 ≡ kept_in job c (Full k)) → IsTest job p n (λ st i. (st.stage k).full)
unfolding IsTest
full_kept job p n k d l e = λ c st i h. test_of c p n (kept_in job c (Full k)) (e c) ∙ h.full k (later k d) l

pub pipe_kept : (job : Job) (p : Held) (n : NodeId) (x k : ℕ) → (k ≡ 0 → ⊥) → k < job.stages.value → x < length (pipes_of job.decls) → is_piped job x k ≡ true → ((c : Cells) → at c p.nodes n.0 ≡ kept_in job c (Pipe x k))
    → Gives job p n (λ st i. (st.stage k).instruction.pipes x)
unfolding Gives
pipe_kept job p n x k d l m y e = λ c st i h. e c ∙ h.pipes x k m y (later k d) l

pub pipe_absent : (job : Job) (p : Held) (n : NodeId) (x k : ℕ) → x < length (pipes_of job.decls) → is_piped job x k ≡ false → ((c : Cells) → at c p.nodes n.0 ≡ 0)
    → Gives job p n (λ st i. (st.stage k).instruction.pipes x)
unfolding Gives
pipe_absent job p n x k m y e = λ c st i h. e c ∙ sym (h.absent x k m y)

pub result_kept : (job : Job) (p : Held) (n v : NodeId) (t k : ℕ) → (k ≡ 0 → ⊥) → k < job.stages.value → t < length (targets_of job.decls) → is_stored job t k ≡ true
    → ((c : Cells) → at c p.nodes n.0 ≡ kept_in job c (Valid t k)) → ((c : Cells) → at c p.nodes v.0 ≡ kept_in job c (Value t k))
    → MayGive job p n v (λ st i. (st.stage k).instruction.results t)
unfolding MayGive
result_kept job p n v t k d l m y e f = λ c st i h.
    ap (λ b. optional b (at c p.nodes v.0)) (test_of c p n (kept_in job c (Valid t k)) (e c)) ∙ ap (optional (kept_in job c (Valid t k) == 1)) (f c) ∙ h.results t k m y (later k d) l

pub result_absent : (job : Job) (p : Held) (n v : NodeId) (t k : ℕ) → t < length (targets_of job.decls) → is_kept job t k ≡ true → is_stored job t k ≡ false
    → ((c : Cells) → on c p.nodes n.0 ≡ false) → MayGive job p n v (λ st i. (st.stage k).instruction.results t)
unfolding MayGive
result_absent job p n v t k m y z e = λ c st i h. ap (λ b. optional b (at c p.nodes v.0)) (e c) ∙ sym (h.unset t k m y z)
