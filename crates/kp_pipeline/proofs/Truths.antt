use Rattle.std.proofs.Common.{◌≡◌, ℕ, zero, suc, ◌+◌, ◌<◌, ◌≤◌, Bool, true, false, not, ◌&&◌, ◌||◌, eqb, leb, Option, Some, None, refl, sym, ap, ap₂, ◌∙◌, subst, inl, inr, ◌⊎◌, ⊎_elim, arith, le-leb, leb-true, eqb-true}
use Rattle.std.specs.{List.AllByRecursion, Prelude.unwrap_or}
use Rattle.std.proofs.lemmas.Bool.{cases_Bool, cases_lt, cond-true, cond-false, and_from, and_left, and_right, or_left, both_ways, not_from_false, lt-leb}
use Rattle.kp_pipeline.specs.Pipeline.{Inputs, PipelineState, above, back, candidate_hits, forwarded, hits, intent_known, is_candidate, ok_value, outcome, stall, ue}
use Rattle.kp_pipeline.specs.Machine.{Machine, Tree}
use Rattle.kp_pipeline.specs.Sequential.{Instruction, after_stage, before_stage, first_value, instruction_before, intends, is_written, run, seq}
use Rattle.kp_pipeline.{specs.Accepted.Accepted, proofs.Cycle.truth-in, proofs.Cycle.truth-top, proofs.Cycle.ue-from, proofs.Cycle.ue-parts}
use Rattle.kp_pipeline.proofs.Movement.{chain-empty, chain-full, no_stall-parts}
use Rattle.kp_pipeline.proofs.Sequential.{no_result-final, result-final, seq-fixed, seq-other, seq-written, written-from}
use Rattle.kp_pipeline.proofs.Agreement.{IsRight, SameEffect, after-same, run-agrees}
use Rattle.kp_pipeline.proofs.Invariant.{Inv, Met, RightAt}

-- what is known if a hit is available
pub ok_value-cases : (stored : Option ℕ) (stalled : Bool) (now : Option ℕ) (last : Bool) (v : ℕ)
    → ok_value true stored stalled now last ≡ Some v
    → (stored ≡ Some v) ⊎ ((stored ≡ None) × (stalled ≡ false) × ((now ≡ Some v) ⊎ ((now ≡ None) × (last ≡ true) × (v ≡ 0))))
ok_value-cases (Some u) stalled now last v e = inl e
ok_value-cases None true now last v e = cc
ok_value-cases None false (Some u) last v e = inr (refl, refl, inl e)
ok_value-cases None false None true v e = inr (refl, refl, inr (refl, refl, cc))
ok_value-cases None false None false v e = cc

-- no candidate above: the target's own value
pub truth-own : (m : Machine) (st : PipelineState) (inputs : Inputs) (t a d k : ℕ) → suc (k + d) ≡ m.stages
    → (m.has_result t ≡ true → m.write_stage t ≤ k) → (above m st inputs k).truth t a ≡ Some (st.visible t a)
truth-own m st inputs t a zero k e h = truth-top m st inputs k t a (omega arith)
truth-own m st inputs t a (suc d) k e h =
    truth-in m st inputs k t a (omega arith)
    ∙ cond-false (candidate_hits m st (suc k) t a) _ _ (and_left (is_candidate m (suc k) t) _ far)
    ∙ truth-own m st inputs t a d (suc k) (omega arith) (λ q. let b : m.write_stage t ≤ k = h q in omega arith)
  where
    far : (is_candidate m (suc k) t) ≡ false
    far = ⊎_elim (λ q. and_right (m.has_result t) _ (lt-leb (suc k) (m.write_stage t) (let b : m.write_stage t ≤ k = h q in omega arith))) (λ q. and_left (m.has_result t) _ q) (cases_Bool (m.has_result t))

module _ (m : Machine) (s given : ℕ → ℕ → ℕ) (st : PipelineState) (inputs : Inputs) (count : ℕ → ℕ) where
  -- The guesses made in stage j in this cycle are right, if it updates.
  abbrev pub MadeRight : ℕ → Type 0
  MadeRight j = ue m st inputs j ≡ true → AllByRecursion (IsRight (seq m s given (count j))) (outcome m st inputs j).guesses

  -- All guesses above stage k are right, pending ones and those made in this cycle.
  abbrev pub RightAbove : ℕ → Type 0
  RightAbove k = (j : ℕ) → k < j → j < m.stages → RightAt m s given st count j × MadeRight j

  -- A truth that stage k has is the value in the sequential machine.
  abbrev pub TruthIsRight : ℕ → Type 0
  TruthIsRight k = (t a v : ℕ) → (m.has_result t ≡ true → k ≤ m.write_stage t) → (above m st inputs k).truth t a ≡ Some v → v ≡ seq m s given (count k) t a

module _ (m : Machine) (acc : Accepted m) (s given : ℕ → ℕ → ℕ) (st : PipelineState) (inputs : Inputs) (count updates : ℕ → ℕ) (inv : Inv m s given st count updates) (met : Met m given st inputs count) where
  -- What an updating stage computes is what the sequential machine computes there: part (b) for the stage above.
  pub computes : (k : ℕ) → k < m.stages → ue m st inputs k ≡ true → TruthIsRight m s given st inputs count k
      → RightAbove m s given st inputs count k → RightAt m s given st count k → MadeRight m s given st inputs count k
      → after_stage (st.stage k).instruction (outcome m st inputs k) ≡ instruction_before m s given (count k) (suc k)
  unfolding before_stage outcome
  computes k b u truth up right made =
      let p = ue-parts m st inputs k u in
      let no_stall = no_stall-parts m st inputs k p.0 p.1 in
      let e = inv.held k b p.0 (λ j q r. ⊎_elim (λ (i : k < j). (up j i r).0) (λ i. let w : k ≡ j = omega arith in subst (λ n. RightAt m s given st count n) w right) (cases_lt k j)) in
      let same = (run-agrees m k (above m st inputs k).truth st.hints (λ h. 0) (seq m s given (count k)) (m.body k inputs.samples (st.stage k).instruction.pipes) (acc.fits k inputs.samples (st.stage k).instruction.pipes b) truth no_stall.0 (made u)).0 in
      let looks : m.body k inputs.samples (st.stage k).instruction.pipes ≡ m.body k (given (count k)) (instruction_before m s given (count k) k).pipes
      = acc.own_samples k inputs.samples (given (count k)) (st.stage k).instruction.pipes b (λ x q. sym (subst (λ (n : ℕ). n < m.stages → ue m st inputs n ≡ true → given (count n) x ≡ inputs.samples x) q (met x) b u)) ∙ ap (λ (c : Instruction). m.body k (given (count k)) c.pipes) e in
      after-same (st.stage k).instruction (instruction_before m s given (count k) k) (outcome m st inputs k) (run (λ t a. Some (seq m s given (count k) t a)) (λ h. 0) (m.body k (given (count k)) (instruction_before m s given (count k) k).pipes)) e
      (subst (λ (x : Tree). SameEffect (run (above m st inputs k).truth st.hints (m.body k inputs.samples (st.stage k).instruction.pipes)) (run (λ t a. Some (seq m s given (count k) t a)) (λ h. 0) x)) looks same)

  -- if an older instruction i, in stage k, has known intent: what it writes, seen from its own stage
  known-written : (t a k : ℕ) → m.has_result t ≡ true → m.known_from t ≤ k → k < m.stages
      → (st.stage k).instruction ≡ instruction_before m s given (count k) k
      → is_written m (instruction_before m s given (count k) m.stages) t a ≡ (intends m (st.stage k).instruction t a)
  known-written t a k h q b e =
      written-from m acc (seq m s given (count k)) (given (count k)) t a k h q (omega arith)
      ∙ ap (λ (c : Instruction). is_written m c t a) (sym e)
      ∙ ap (λ (x : Bool). x && (intends m (st.stage k).instruction t a)) h

  -- the value that an available hit forwards is the value that its instruction writes
  forwarded-right : (t v k : ℕ) → m.has_result t ≡ true → k < m.stages → back m st inputs ≤ k → (st.stage k).full ≡ true
      → (st.stage k).instruction ≡ instruction_before m s given (count k) k
      → (ue m st inputs k ≡ true → after_stage (st.stage k).instruction (outcome m st inputs k) ≡ instruction_before m s given (count k) (suc k))
      → ok_value true ((st.stage k).instruction.results t) (stall m st inputs k) ((outcome m st inputs k).sets t) (eqb k (m.write_stage t)) ≡ Some v
      → v ≡ unwrap_or ((instruction_before m s given (count k) m.stages).results t) 0
  forwarded-right t v k h b r f e c w =
      ⊎_elim
      (λ q. let x = result-final m acc (seq m s given (count k)) (given (count k)) t k v (omega arith) (ap (λ (y : Instruction). y.results t) (sym e) ∙ q) in sym (ap (λ (o : Option ℕ). unwrap_or o 0) x))
      fresh-right (ok_value-cases ((st.stage k).instruction.results t) (stall m st inputs k) ((outcome m st inputs k).sets t) (eqb k (m.write_stage t)) v w)
    where
      fresh-right : ((st.stage k).instruction.results t ≡ None) × (stall m st inputs k ≡ false) × (((outcome m st inputs k).sets t ≡ Some v) ⊎ (((outcome m st inputs k).sets t ≡ None) × (eqb k (m.write_stage t) ≡ true) × (v ≡ 0)))
          → v ≡ unwrap_or ((instruction_before m s given (count k) m.stages).results t) 0
      fresh-right q =
          let moved = c (ue-from m st inputs k f q.1 r) in
          let now : first_value ((st.stage k).instruction.results t) ((outcome m st inputs k).sets t) ≡ (instruction_before m s given (count k) (suc k)).results t = ap (λ (y : Instruction). y.results t) moved in
          let here : (outcome m st inputs k).sets t ≡ (instruction_before m s given (count k) (suc k)).results t = (rw q.0 at now) in
          ⊎_elim
          (λ (g : (outcome m st inputs k).sets t ≡ Some v). let x = result-final m acc (seq m s given (count k)) (given (count k)) t (suc k) v b (sym here ∙ g) in sym (ap (λ (o : Option ℕ). unwrap_or o 0) x))
          (λ (g : ((outcome m st inputs k).sets t ≡ None) × (eqb k (m.write_stage t) ≡ true) × (v ≡ 0)).
          let j : k ≡ m.write_stage t = eqb-true k (m.write_stage t) g.1 in
          let x = no_result-final m acc (seq m s given (count k)) (given (count k)) t (suc k) h (omega arith) b (sym here ∙ g.0) in
          g.2 ∙ sym (ap (λ (o : Option ℕ). unwrap_or o 0) x))
          q.2

  -- The own value of a target is right in its write stage: part (e).
  own-right : (t a v k : ℕ) → (above m st inputs k).truth t a ≡ Some (st.visible t a)
      → (m.has_result t ≡ true → m.write_stage t ≡ k) → (above m st inputs k).truth t a ≡ Some v → v ≡ seq m s given (count k) t a
  own-right t a v k e own h =
      let x : v ≡ st.visible t a = cc in
      x ∙ ⊎_elim (λ q. subst (λ (n : ℕ). st.visible t a ≡ seq m s given (count n) t a) (own q) (inv.visible t a q)) (λ q. inv.fixed t a q ∙ sym (seq-fixed m s given t a (count k) q)) (cases_Bool (m.has_result t))

  pub candidate-hits : (t a k : ℕ) → m.has_result t ≡ true → k ≤ m.write_stage t → candidate_hits m st k t a ≡ hits m st k t a
  candidate-hits t a k h b = ap (λ (x : Bool). x && hits m st k t a) (and_from (m.has_result t) (leb k (m.write_stage t)) h (le-leb k (m.write_stage t) b))

  -- the step from the stage above, if that is a candidate
  truth-through : (t a v k : ℕ) → m.has_result t ≡ true → suc k ≤ m.write_stage t → suc k < m.stages → back m st inputs ≤ suc k
      → TruthIsRight m s given st inputs count (suc k) → RightAbove m s given st inputs count k
      → (above m st inputs k).truth t a ≡ Some v → v ≡ seq m s given (count k) t a
  truth-through t a v k h q b r ih up w =
      ⊎_elim is_full
      (λ f. from_higher (candidate-hits t a (suc k) h q ∙ and_left (st.stage (suc k)).full _ f) ∙ ap (λ (n : ℕ). seq m s given n t a) (sym (chain-empty m st inputs count inv.chain k b f)))
      (cases_Bool (st.stage (suc k)).full)
    where
      from_higher : candidate_hits m st (suc k) t a ≡ false → v ≡ seq m s given (count (suc k)) t a
      from_higher e = ih t a v (λ _. q) (sym (cond-false (candidate_hits m st (suc k) t a) _ _ e) ∙ sym (truth-in m st inputs k t a b) ∙ w)

      from_hit : candidate_hits m st (suc k) t a ≡ true → forwarded m st inputs (suc k) t ≡ Some v
      from_hit e = sym (cond-true (candidate_hits m st (suc k) t a) _ _ e) ∙ sym (truth-in m st inputs k t a b) ∙ w

      is_full : (st.stage (suc k)).full ≡ true → v ≡ seq m s given (count k) t a
      is_full f = ⊎_elim known unknown (cases_Bool (intent_known m (suc k) t))
        where
          i : count k ≡ suc (count (suc k))
          i = chain-full m st inputs count inv.chain k b f

          core : (st.stage (suc k)).instruction ≡ instruction_before m s given (count (suc k)) (suc k)
          core = inv.held (suc k) b f (λ j x y. (up j x y).0)

          unknown : intent_known m (suc k) t ≡ false → v ≡ seq m s given (count k) t a
          unknown u =
              let e : candidate_hits m st (suc k) t a ≡ true = candidate-hits t a (suc k) h q ∙ and_from (st.stage (suc k)).full _ f (or_left (not (intent_known m (suc k) t)) _ (not_from_false _ u)) in
              let x : ok_value false ((st.stage (suc k)).instruction.results t) (stall m st inputs (suc k)) ((outcome m st inputs (suc k)).sets t) (eqb (suc k) (m.write_stage t)) ≡ Some v = (rw u at (from_hit e)) in
              cc

          known : intent_known m (suc k) t ≡ true → v ≡ seq m s given (count k) t a
          known u = ⊎_elim
              (λ e.
              let x : ok_value true ((st.stage (suc k)).instruction.results t) (stall m st inputs (suc k)) ((outcome m st inputs (suc k)).sets t) (eqb (suc k) (m.write_stage t)) ≡ Some v = (rw u at (from_hit (n ∙ e))) in
              forwarded-right t v (suc k) h b r f core (λ go. computes (suc k) b go ih (λ j y z. up j (omega arith) z) (up (suc k) (omega arith) b).0 (up (suc k) (omega arith) b).1) x
              ∙ sym (seq-written m s given t a (count (suc k)) (wr ∙ e)) ∙ ap (λ (y : ℕ). seq m s given y t a) (sym i))
              (λ e. from_higher (n ∙ e) ∙ sym (seq-other m s given t a (count (suc k)) (wr ∙ e)) ∙ ap (λ (x : ℕ). seq m s given x t a) (sym i))
              (cases_Bool (intends m (st.stage (suc k)).instruction t a))
            where
              n : candidate_hits m st (suc k) t a ≡ (intends m (st.stage (suc k)).instruction t a)
              n = candidate-hits t a (suc k) h q ∙ ap₂ (λ (x : Bool) (y : Bool). x && (not y || (intends m (st.stage (suc k)).instruction t a))) f u

              wr : is_written m (instruction_before m s given (count (suc k)) m.stages) t a ≡ (intends m (st.stage (suc k)).instruction t a)
              wr = known-written t a (suc k) h (leb-true (m.known_from t) (suc k) u) b core

  -- Every truth is right, from the last stage down.
  pub truth-right : (d k : ℕ) → suc (k + d) ≡ m.stages → back m st inputs ≤ suc k → RightAbove m s given st inputs count k
      → TruthIsRight m s given st inputs count k
  truth-right zero k e r up t a v own w =
      own-right t a v k (truth-top m st inputs k t a (omega arith)) (λ q. let x : m.write_stage t < m.stages = acc.writes t q in let y : k ≤ m.write_stage t = own q in omega arith) w
  truth-right (suc d) k e r up t a v own w = ⊎_elim (λ q. has q (truth-right d (suc k) (omega arith) (omega arith) (λ j y z. up j (omega arith) z))) hasnt (cases_Bool (m.has_result t))
    where
      hasnt : m.has_result t ≡ false → v ≡ seq m s given (count k) t a
      hasnt q = own-right t a v k (truth-own m st inputs t a (suc d) k e (λ p. absurd (both_ways (m.has_result t) q p))) (λ p. absurd (both_ways (m.has_result t) q p)) w

      has : m.has_result t ≡ true → TruthIsRight m s given st inputs count (suc k) → v ≡ seq m s given (count k) t a
      has q ih =
          ⊎_elim
          (λ (x : k < m.write_stage t). truth-through t a v k q x (omega arith) r ih up w)
          (λ (x : m.write_stage t ≤ k). let y : k ≤ m.write_stage t = own q in own-right t a v k (truth-own m st inputs t a (suc d) k e (λ _. x)) (λ _. omega arith) w)
          (cases_lt k (m.write_stage t))
