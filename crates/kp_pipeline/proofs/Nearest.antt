use Rattle.std.proofs.Common.{◌≡◌, ℕ, zero, suc, ◌+◌, ◌-◌, ◌<◌, ◌≤◌, Bool, true, false, cond, ◌&&◌, leb, Option, Some, refl, ap, ap₂, ◌∙◌, ⊎_elim, ◌⊎◌, inl, inr, subst, arith, le-leb}
use Rattle.std.proofs.lemmas.Bool.{cases_Bool, cases_lt, cond-true, cond-false, and_from, both_ways}
use Rattle.kp_pipeline.specs.Machine.{Machine}
use Rattle.kp_pipeline.specs.Pipeline.{Inputs, PipelineState, above, back, candidate_hits, forwarded, hits, mismatches}
use Rattle.kp_pipeline.specs.{Accepted.Accepted, Nearest.HasNoHit, Nearest.IsGreatestMismatch, Nearest.IsNearestHit, Nearest.candidates, Nearest.select}
use Rattle.kp_pipeline.proofs.{Cycle.greatest-above, Cycle.greatest-at, Cycle.truth-in, Cycle.truth-top, Truths.truth-own}

-- FORWARDING TAKES THE NEAREST HIT: the recursion down the stages finds what the plain definitions say.

-- What stage k sees of stage k + d is its own if no stage between hits.
truth-skips : (m : Machine) (st : PipelineState) (i : Inputs) (t a d k : ℕ) → k + d < m.stages
    → ((j : ℕ) → k < j → j ≤ k + d → candidate_hits m st j t a ≡ false)
    → (above m st i k).truth t a ≡ (above m st i (k + d)).truth t a
truth-skips m st i t a zero k b none = let e : k + 0 ≡ k = omega arith in rw e refl
truth-skips m st i t a (suc d) k b none =
    let e : k + suc d ≡ suc k + d = omega arith in
    truth-in m st i k t a (omega arith) ∙ cond-false (candidate_hits m st (suc k) t a) _ _ (none (suc k) (omega arith) (omega arith))
    ∙ rw e (truth-skips m st i t a d (suc k) (omega arith) (λ j x y. none j (omega arith) (omega arith)))

-- Without a hit the truth is the target's own value.
pub no_hit-own : (m : Machine) (st : PipelineState) (i : Inputs) (k t a : ℕ) → k < m.stages → HasNoHit m st k t a
    → (above m st i k).truth t a ≡ Some (st.visible t a)
no_hit-own m st i k t a b none =
    truth-skips m st i t a (m.stages - suc k) k (omega arith) (λ j x y. none j x (omega arith))
    ∙ truth-top m st i (k + (m.stages - suc k)) t a (omega arith)

-- With a nearest hit it is the value that this stage forwards.
pub nearest-forwarded : (m : Machine) (st : PipelineState) (i : Inputs) (k t a j : ℕ) → IsNearestHit m st k t a j
    → (above m st i k).truth t a ≡ forwarded m st i j t
nearest-forwarded m st i k t a zero h = absurd (let x : k < 0 = h.0 in omega arith)
nearest-forwarded m st i k t a (suc j) h =
    let x : k < suc j = h.0 in
    let y : suc j < m.stages = h.1 in
    let e : k + (j - k) ≡ j = omega arith in
    let z : (above m st i k).truth t a ≡ (above m st i j).truth t a = (rw e at (truth-skips m st i t a (j - k) k (omega arith) (λ l p q. h.3 l p (omega arith)))) in
    z ∙ truth-in m st i j t a y ∙ cond-true (candidate_hits m st (suc j) t a) _ _ h.2

-- The least of d stages above k that hits, or none of them.
nearest-within : (m : Machine) (st : PipelineState) (k t a d : ℕ) → k + d < m.stages
    → ((j : ℕ) × IsNearestHit m st k t a j) ⊎ ((j : ℕ) → k < j → j ≤ k + d → candidate_hits m st j t a ≡ false)
nearest-within m st k t a zero b = inr (λ j x y. absurd (omega arith))
nearest-within m st k t a (suc d) b =
    ⊎_elim inl
    (λ none. ⊎_elim
    (λ (e : candidate_hits m st (k + suc d) t a ≡ true). inl (k + suc d, (omega arith, b, e, (λ i x y. none i x (omega arith)))))
    (λ (e : candidate_hits m st (k + suc d) t a ≡ false). inr (λ j x y. ⊎_elim (λ (i : j < k + suc d). none j x (omega arith)) (λ (i : k + suc d ≤ j). let w : k + suc d ≡ j = omega arith in subst (λ (n : ℕ). candidate_hits m st n t a ≡ false) w e) (cases_lt j (k + suc d))))
    (cases_Bool (candidate_hits m st (k + suc d) t a)))
    (nearest-within m st k t a d (omega arith))

-- Either there is a nearest hit, or no stage hits.
pub nearest-or-none : (m : Machine) (st : PipelineState) (k t a : ℕ) → k < m.stages
    → ((j : ℕ) × IsNearestHit m st k t a j) ⊎ HasNoHit m st k t a
nearest-or-none m st k t a b =
    ⊎_elim inl (λ none. inr (λ j x y. none j x (omega arith))) (nearest-within m st k t a (m.stages - suc k) (omega arith))

-- The first row of the list of candidates that hits is the nearest hit: what a selection chain or tree computes.
pub truth-select : (m : Machine) (acc : Accepted m) (st : PipelineState) (i : Inputs) (t a d k : ℕ) → m.has_result t ≡ true
    → k + d ≡ m.write_stage t → (above m st i k).truth t a ≡ select (candidates m st i t a d k) (Some (st.visible t a))
truth-select m acc st i t a zero k h e =
    let b : m.write_stage t < m.stages = acc.writes t h in
    truth-own m st i t a (m.stages - suc k) k (omega arith) (λ _. omega arith)
truth-select m acc st i t a (suc d) k h e =
    let b : m.write_stage t < m.stages = acc.writes t h in
    truth-in m st i k t a (omega arith)
    ∙ ap₂ (λ (x : Bool) (y : Option ℕ). cond x (forwarded m st i (suc k) t) y)
    (ap (λ (x : Bool). x && hits m st (suc k) t a) (and_from (m.has_result t) (leb (suc k) (m.write_stage t)) h (le-leb (suc k) (m.write_stage t) (omega arith))))
    (truth-select m acc st i t a d (suc k) h (omega arith))

-- `back` IS THE GREATEST MISMATCHING STAGE, plus one.
pub back-greatest : (m : Machine) (st : PipelineState) (i : Inputs) (r : ℕ) → back m st i ≡ suc r → IsGreatestMismatch m st i r
unfolding back
back-greatest m st i r e =
    let p = greatest-at (mismatches m st i) m.stages r e in
    (p.1, p.0, (λ j x y. greatest-above (mismatches m st i) m.stages j (omega arith) y))

pub back-none : (m : Machine) (st : PipelineState) (i : Inputs) → back m st i ≡ 0 → (k : ℕ) → k < m.stages
    → mismatches m st i k ≡ false
unfolding back
back-none m st i e k b = greatest-above (mismatches m st i) m.stages k (omega arith) b

-- The greatest mismatching stage is the one below `back`.
pub greatest-back : (m : Machine) (st : PipelineState) (i : Inputs) (r : ℕ) → IsGreatestMismatch m st i r → back m st i ≡ suc r
greatest-back m st i r h = of (back m st i) refl
  where
    of : (b : ℕ) → back m st i ≡ b → back m st i ≡ suc r
    of zero e = absurd (both_ways _ (back-none m st i e r h.0) h.1)
    of (suc q) e =
        let g = back-greatest m st i q e in
        ⊎_elim (λ (x : q < r). absurd (both_ways _ (g.2 r x h.0) h.1))
        (λ (x : r ≤ q). ⊎_elim (λ (y : r < q). absurd (both_ways _ (h.2 q y g.0) g.1)) (λ (y : q ≤ r). omega arith) (cases_lt r q))
        (cases_lt q r)
