-- What the next nodes mean, arm by arm.
use Rattle.std.proofs.Common.{◌≡◌, ◌∙◌, ℕ, suc, ◌<◌, Bool, true, false, cond, not, ◌&&◌, ◌||◌, leb, length, get_or, Option, Some, None, refl, sym, ap, subst}
use Rattle.std.{proofs.Math.Bool.not-not, proofs.lemmas.Bool.and_parts, specs.Prelude.nat_le, specs.Prelude.unwrap_or}
use Rattle.kp_ast.specs.declared.tree.Job.{Job}
use Rattle.kp_pipeline.specs.Sequential.{first_value, after_stage}
use Rattle.kp_pipeline.specs.Pipeline.{PipelineState, Inputs, outcome, ue, stall, back, cycle, next_stage, next_hints}
use Rattle.kp_machine.specs.{Slots.targets_of, Slots.pipes_of, Slots.hints_of, Machine.machine_of, Machine.result_for}
use Rattle.kp_net.specs.{declared.node.NodeId.NodeId, Nodes.Cells, Nodes.at, Nodes.on, Growth.Held, Growth.Wire, Growth.Kept}
use Rattle.kp_synth_registers.specs.declared.key.Key.TheVariants.{Hint}
use Rattle.kp_design.specs.{Spans.set_by, Spans.is_kept, Spans.is_stored, Numbers.pipe_at}
use Rattle.kp_synth_registers.specs.{declared.outcome.Set.Set, declared.outcome.Outcome.Outcome, Holding.kept_in, Holding.optional}
use Rattle.kp_synth_registers.specs.Meaning.{IsTest, Gives, MayGive, Says, set_value, put_value, PutFits}
use Rattle.kp_synth_registers.proofs.Growth.{says_kept}

pub first_is : (a b : Bool) (v w : ℕ) → optional (a || b) (cond a v w) ≡ first_value (optional a v) (optional b w)
first_is true b v w = refl
first_is false true v w = refl
first_is false false v w = refl

pub chosen_is : (u a b : Bool) (v w : ℕ) → optional (cond u a b) (cond u v w) ≡ cond u (optional a v) (optional b w)
chosen_is true a b v w = refl
chosen_is false a b v w = refl

-- what is stored is kept
pub stored_kept : (job : Job) (t k : ℕ) → is_stored job t k ≡ true → is_kept job t k ≡ true
stored_kept job t k e = (and_parts (nat_le (set_by job (result_for job t)) k) (is_kept job t k) e).1

-- the stage after stage k
pub results_next : (job : Job) (st : PipelineState) (i : Inputs) (t k : ℕ) → ((cycle (machine_of job) st i).stage (suc k)).instruction.results t
    ≡ cond (ue (machine_of job) st i k) (first_value ((st.stage k).instruction.results t) ((outcome (machine_of job) st i k).sets t)) ((st.stage (suc k)).instruction.results t)
unfolding next_stage
results_next job st i t k = elim (ue (machine_of job) st i k) as
    (λ (u : Bool). (cond u (after_stage (st.stage k).instruction (outcome (machine_of job) st i k)) (st.stage (suc k)).instruction).results t
    ≡ cond u (first_value ((st.stage k).instruction.results t) ((outcome (machine_of job) st i k).sets t)) ((st.stage (suc k)).instruction.results t))
    [ true ↦ refl | false ↦ refl ]

-- what leaves stage k of a result
first_none : (o s : Option ℕ) → s ≡ None → o ≡ first_value o s
first_none None s e = sym e
first_none (Some v) s e = refl

pub leaves_none : (job : Job) (p q : Held) (j k t : ℕ) (out : Outcome) (stored : Set) → Kept p q j → Says job p k out → t < length (targets_of job.decls)
    → get_or out.sets t None ≡ None → MayGive job q stored.enabled stored.value (λ st i. (st.stage k).instruction.results t)
    → MayGive job q stored.enabled stored.value (λ st i. first_value ((st.stage k).instruction.results t) ((outcome (machine_of job) st i k).sets t))
unfolding MayGive
leaves_none job p q j k t out stored a says l e h = λ c st i m.
    h c st i m ∙ first_none ((st.stage k).instruction.results t) ((outcome (machine_of job) st i k).sets t) (sym (says.sets c st i m t l) ∙ ap (set_value c p) e)

pub leaves_some : (job : Job) (p q r : Held) (j k t : ℕ) (out : Outcome) (stored set came : Set) → Kept p q j → Says job p k out → t < length (targets_of job.decls)
    → get_or out.sets t None ≡ Some set → MayGive job q stored.enabled stored.value (λ st i. (st.stage k).instruction.results t)
    → ((c : Cells) → optional (on c r.nodes came.enabled.0) (at c r.nodes came.value.0)
    ≡ first_value (optional (on c q.nodes stored.enabled.0) (at c q.nodes stored.value.0)) (optional (on c q.nodes set.enabled.0) (at c q.nodes set.value.0)))
    → MayGive job r came.enabled came.value (λ st i. first_value ((st.stage k).instruction.results t) ((outcome (machine_of job) st i k).sets t))
unfolding MayGive
leaves_some job p q r j k t out stored set came a says l e h is = λ c st i m.
    let s : Says job q k out = says_kept job p q j k out a says in
    is c ∙ ap (λ o. first_value o (set_value c q (Some set))) (h c st i m)
    ∙ ap (first_value ((st.stage k).instruction.results t)) (ap (set_value c q) (sym e) ∙ s.sets c st i m t l)

-- a pipe, a full bit and a hint
pub pipes_next : (job : Job) (st : PipelineState) (i : Inputs) (x k : ℕ) → ((cycle (machine_of job) st i).stage (suc k)).instruction.pipes x
    ≡ cond (ue (machine_of job) st i k) (unwrap_or ((outcome (machine_of job) st i k).puts x) ((st.stage k).instruction.pipes x)) ((st.stage (suc k)).instruction.pipes x)
unfolding next_stage
pipes_next job st i x k = elim (ue (machine_of job) st i k) as
    (λ (u : Bool). (cond u (after_stage (st.stage k).instruction (outcome (machine_of job) st i k)) (st.stage (suc k)).instruction).pipes x
    ≡ cond u (unwrap_or ((outcome (machine_of job) st i k).puts x) ((st.stage k).instruction.pipes x)) ((st.stage (suc k)).instruction.pipes x))
    [ true ↦ refl | false ↦ refl ]

pub full_is : (job : Job) (st : PipelineState) (i : Inputs) (k n : ℕ) (u s w : Bool) → n ≡ suc k → u ≡ ue (machine_of job) st i k → s ≡ stall (machine_of job) st i n
    → w ≡ not (leb (back (machine_of job) st i) n) → (not w && (u || s)) ≡ ((cycle (machine_of job) st i).stage n).full
unfolding next_stage
full_is job st i k n u s w e a b d = rw (a, b, d, e, not-not (leb (back (machine_of job) st i) (suc k))) refl

pub put_some : (job : Job) (p : Held) (k x : ℕ) (out : Outcome) (n : NodeId) → Says job p k out → x < length (pipes_of job.decls) → get_or out.puts x None ≡ Some n
    → Gives job p n (λ st i. unwrap_or ((outcome (machine_of job) st i k).puts x) ((st.stage k).instruction.pipes x))
unfolding Gives
put_some job p k x out n says l e = λ c st i h.
    ap (λ (o : Option ℕ). unwrap_or o ((st.stage k).instruction.pipes x)) (ap (put_value c p) (sym e) ∙ says.puts c st i h x l)

pub put_none : (job : Job) (p q : Held) (k x : ℕ) (out : Outcome) (n : NodeId) → Says job p k out → x < length (pipes_of job.decls) → get_or out.puts x None ≡ None
    → Gives job q n (λ st i. (st.stage k).instruction.pipes x)
    → Gives job q n (λ st i. unwrap_or ((outcome (machine_of job) st i k).puts x) ((st.stage k).instruction.pipes x))
unfolding Gives
put_none job p q k x out n says l e g = λ c st i h.
    g c st i h ∙ ap (λ (o : Option ℕ). unwrap_or o ((st.stage k).instruction.pipes x)) (ap (put_value c p) (sym e) ∙ says.puts c st i h x l)

pub put_wire : (job : Job) (p : Held) (k x : ℕ) (out : Outcome) (n : NodeId) → Says job p k out → get_or out.puts x None ≡ Some n → Wire p n (pipe_at job x).width
put_wire job p k x out n says e = subst (PutFits p (pipe_at job x).width) e (says.put_wires x)

same_cond : (b : Bool) (v : ℕ) → cond b v v ≡ v
same_cond true v = refl
same_cond false v = refl

pub hint_some : (job : Job) (p q : Held) (k x : ℕ) (out : Outcome) (n u o r : NodeId) → Says job p k out → x < length (hints_of job.decls) → k ≡ (machine_of job).hint_stage x
    → get_or out.aims x None ≡ Some n → IsTest job p u (λ st i. ue (machine_of job) st i k) → ((c : Cells) → at c p.nodes o.0 ≡ kept_in job c (Hint x))
    → ((c : Cells) → at c q.nodes r.0 ≡ cond (on c p.nodes u.0) (at c p.nodes n.0) (at c p.nodes o.0))
    → Gives job q r (λ st i. (cycle (machine_of job) st i).hints x)
unfolding Gives IsTest next_hints
hint_some job p q k x out n u o r says l z e t v w = λ c st i h.
    let a = t c st i h in
    let b : Some (at c p.nodes n.0) ≡ (outcome (machine_of job) st i k).aims x = ap (put_value c p) (sym e) ∙ says.aims c st i h x l in
    let d = v c ∙ h.hints x l in
    w c ∙ rw (a, d, sym z, sym b) refl

pub hint_none : (job : Job) (p : Held) (k x : ℕ) (out : Outcome) (o : NodeId) → Says job p k out → x < length (hints_of job.decls) → k ≡ (machine_of job).hint_stage x
    → get_or out.aims x None ≡ None → ((c : Cells) → at c p.nodes o.0 ≡ kept_in job c (Hint x))
    → Gives job p o (λ st i. (cycle (machine_of job) st i).hints x)
unfolding Gives next_hints
hint_none job p k x out o says l z e v = λ c st i h.
    let b : None ≡ (outcome (machine_of job) st i k).aims x = ap (put_value c p) (sym e) ∙ says.aims c st i h x l in
    v c ∙ h.hints x l ∙ rw (sym z, sym b) (sym (same_cond (ue (machine_of job) st i k) (st.hints x)))
