use Rattle.std.proofs.Common.{◌≡◌, ℕ, zero, suc, ◌-◌, ◌<◌, ◌≤◌, Bool, true, false, cond, not, ◌&&◌, ◌||◌, leb, Some, refl, ap, ⊎_elim, arith, leb-true, le-leb}
use Rattle.std.proofs.lemmas.Bool.{and_parts, and_from, not-true, not_from_false, cases_Bool, cases_eq, cond-true, cond-false}
use Rattle.kp_pipeline.specs.Pipeline.{FromAbove, Inputs, PipelineState, above, back, candidate_hits, forwarded, from_stages, greatest, outcome, pass_down, stall, ue}
use Rattle.kp_pipeline.specs.Machine.{Machine}

-- WHAT A STAGE SEES: the next stage, and through it what that stage sees.
pub above-in : (m : Machine) (st : PipelineState) (inputs : Inputs) (k : ℕ) → suc k < m.stages
    → above m st inputs k ≡ pass_down m st inputs (suc k) (above m st inputs (suc k))
unfolding above from_stages
above-in m st inputs k h =
    let e : m.stages - suc k ≡ suc (m.stages - suc (suc k)) = omega arith in
    rw e refl

-- The last stage sees the visible state.
pub above-top : (m : Machine) (st : PipelineState) (inputs : Inputs) (k : ℕ) → m.stages ≤ suc k
    → above m st inputs k ≡ record { truth = λ t a. Some (st.visible t a); stall = false }
unfolding above from_stages
above-top m st inputs k h =
    let e : m.stages - suc k ≡ 0 = omega arith in
    rw e refl

-- The truth in stage k: the value forwarded by stage k+1 if it hits, else the truth there.
pub truth-in : (m : Machine) (st : PipelineState) (inputs : Inputs) (k t a : ℕ) → suc k < m.stages
    → (above m st inputs k).truth t a ≡ cond (candidate_hits m st (suc k) t a) (forwarded m st inputs (suc k) t) ((above m st inputs (suc k)).truth t a)
unfolding outcome stall
truth-in m st inputs k t a h = ap (λ (d : FromAbove). d.truth t a) (above-in m st inputs k h)

pub truth-top : (m : Machine) (st : PipelineState) (inputs : Inputs) (k t a : ℕ) → m.stages ≤ suc k
    → (above m st inputs k).truth t a ≡ Some (st.visible t a)
truth-top m st inputs k t a h = ap (λ (d : FromAbove). d.truth t a) (above-top m st inputs k h)

pub stall-above : (m : Machine) (st : PipelineState) (inputs : Inputs) (k : ℕ) → suc k < m.stages
    → (above m st inputs k).stall ≡ stall m st inputs (suc k)
unfolding stall
stall-above m st inputs k h = ap (λ (d : FromAbove). d.stall) (above-in m st inputs k h)

pub stall-top : (m : Machine) (st : PipelineState) (inputs : Inputs) (k : ℕ) → m.stages ≤ suc k
    → (above m st inputs k).stall ≡ false
stall-top m st inputs k h = ap (λ (d : FromAbove). d.stall) (above-top m st inputs k h)

-- THE STALL ENGINE. These and the next lemmas are all that is known of the words that stay closed.
pub stall-is : (m : Machine) (st : PipelineState) (inputs : Inputs) (k : ℕ)
    → stall m st inputs k ≡ ((st.stage k).full && ((outcome m st inputs k).hazard || (inputs.ext k || (above m st inputs k).stall)))
unfolding stall outcome
stall-is m st inputs k = refl

-- From `greatest p n` up nothing passes.
pub greatest-above : (p : ℕ → Bool) (n k : ℕ) → greatest p n ≤ k → k < n → p k ≡ false
greatest-above p zero k h i = absurd (omega arith)
greatest-above p (suc n) k h i = ⊎_elim
    (λ (e : p n ≡ true). let g : suc n ≤ k = (rw (cond-true (p n) (suc n) (greatest p n) e) at h) in absurd (omega arith))
    (λ (e : p n ≡ false).
    let g : greatest p n ≤ k = (rw (cond-false (p n) (suc n) (greatest p n) e) at h) in
    ⊎_elim (λ (q : k ≡ n). rw q e) (λ q. greatest-above p n k g (omega arith)) (cases_eq k n))
    (cases_Bool (p n))

pub greatest-bound : (p : ℕ → Bool) (n : ℕ) → greatest p n ≤ n
greatest-bound p zero = omega arith
greatest-bound p (suc n) = ⊎_elim
    (λ e. let x : greatest p (suc n) ≡ suc n = cond-true (p n) (suc n) (greatest p n) e in omega arith)
    (λ e. let x : greatest p (suc n) ≡ greatest p n = cond-false (p n) (suc n) (greatest p n) e in let y = greatest-bound p n in omega arith)
    (cases_Bool (p n))

-- The number just below it passes.
pub greatest-at : (p : ℕ → Bool) (n b : ℕ) → greatest p n ≡ suc b → (p b ≡ true) × (b < n)
greatest-at p zero b h = absurd (omega arith)
greatest-at p (suc n) b h = ⊎_elim
    (λ (e : p n ≡ true).
    let g : suc n ≡ suc b = (rw (cond-true (p n) (suc n) (greatest p n) e) at h) in
    let q : b ≡ n = omega arith in
    (rw q e, omega arith))
    (λ (e : p n ≡ false).
    let g : greatest p n ≡ suc b = (rw (cond-false (p n) (suc n) (greatest p n) e) at h) in
    let r = greatest-at p n b g in (r.0, omega arith))
    (cases_Bool (p n))

-- The update enable: full, not stalled, not squashed.
pub ue-parts : (m : Machine) (st : PipelineState) (inputs : Inputs) (k : ℕ) → ue m st inputs k ≡ true
    → ((st.stage k).full ≡ true) × (stall m st inputs k ≡ false) × (back m st inputs ≤ k)
unfolding ue
ue-parts m st inputs k h =
    let p = and_parts (st.stage k).full (not (stall m st inputs k) && leb (back m st inputs) k) h in
    let q = and_parts (not (stall m st inputs k)) (leb (back m st inputs) k) p.1 in
    (p.0, not-true (stall m st inputs k) q.0, leb-true (back m st inputs) k q.1)

pub ue-from : (m : Machine) (st : PipelineState) (inputs : Inputs) (k : ℕ) → (st.stage k).full ≡ true
    → stall m st inputs k ≡ false → back m st inputs ≤ k → ue m st inputs k ≡ true
unfolding ue
ue-from m st inputs k f s b =
    and_from (st.stage k).full (not (stall m st inputs k) && leb (back m st inputs) k) f
    (and_from (not (stall m st inputs k)) (leb (back m st inputs) k) (not_from_false (stall m st inputs k) s) (le-leb (back m st inputs) k b))
