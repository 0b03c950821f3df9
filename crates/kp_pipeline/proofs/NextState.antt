use Rattle.std.proofs.Common.{◌≡◌, ℕ, suc, ◌-◌, ◌<◌, ◌≤◌, Bool, true, false, cond, not, ◌&&◌, ◌||◌, eqb, leb, List, [], ◌∷◌, ◌++◌, Option, Some, None, refl, sym, ap, ap₂, ◌∙◌, ⊎_elim, arith, le-leb, eqb-true, eq-eqb, filter}
use Rattle.std.specs.{List.AllByRecursion, Prelude.unwrap_or}
use Rattle.std.proofs.lemmas.Bool.{cases_Bool, cond-true, cond-false, and_parts, and_from, and_left, and_right, or_parts, not-false}
use Rattle.kp_pipeline.specs.Pipeline.{Inputs, PipelineState, above, back, candidate_hits, differs, forwarded, hits, intent_known, mismatches, next_stage, next_visible, ok_value, outcome, some_differs, stall, ue}
use Rattle.kp_pipeline.specs.Machine.{Machine}
use Rattle.kp_pipeline.specs.Sequential.{PendingGuess, after_stage, first_value, intends, is_written}
use Rattle.kp_pipeline.{specs.Accepted.Accepted, proofs.Cycle.greatest-above, proofs.Cycle.greatest-at, proofs.Cycle.truth-in, proofs.Cycle.ue-from}
use Rattle.kp_pipeline.proofs.{Sequential.GuessedIn, Sequential.run-guessed, Truths.truth-own, Movement.ue-empty}

-- WHAT THE CYCLE DOES TO THE STATE. No guess of a list that doesn't mismatch differs from its truth.
pub no_differs : (view : ℕ → ℕ → Option ℕ) (xs : List PendingGuess) → some_differs view xs ≡ false
    → AllByRecursion (λ p. differs (view p.register 0) p.value ≡ false) xs
no_differs view [] h = tt
no_differs view (x ∷ xs) h = let p = or_parts (differs (view x.register 0) x.value) (some_differs view xs) h in (p.0, no_differs view xs p.1)

-- A guess that doesn't differ from its truth is it.
pub differs-not : (o : Option ℕ) (u v : ℕ) → o ≡ Some u → differs o v ≡ false → v ≡ u
differs-not o u v e h =
    let x : not (eqb u v) ≡ false = (rw e at h) in
    sym (eqb-true u v (not-false (eqb u v) x))

-- In the write stage, not stalled, there always is a value: the one that the target takes.
ok_value-last : (o n : Option ℕ) → ok_value true o false n true ≡ Some (unwrap_or (first_value o n) 0)
ok_value-last (Some v) n = refl
ok_value-last None (Some v) = refl
ok_value-last None None = refl

module _ (m : Machine) (st : PipelineState) (inputs : Inputs) where
  -- What stage k+1 holds after the cycle, with and without the update enable of stage k.
  pub next-pending : (k : ℕ) → ue m st inputs k ≡ true
      → (next_stage m st inputs (suc k)).pending ≡ filter (λ p. not (eqb (m.write_stage p.register) (suc k))) ((outcome m st inputs k).guesses ++ (st.stage k).pending)
  unfolding next_stage
  next-pending k u = cond-true (ue m st inputs k) _ _ u

  pub next-pending-kept : (k : ℕ) → ue m st inputs k ≡ false
      → (next_stage m st inputs (suc k)).pending ≡ (st.stage (suc k)).pending
  unfolding next_stage
  next-pending-kept k u = cond-false (ue m st inputs k) _ _ u

  pub next-instruction : (k : ℕ) → ue m st inputs k ≡ true
      → (next_stage m st inputs (suc k)).instruction ≡ after_stage (st.stage k).instruction (outcome m st inputs k)
  unfolding next_stage
  next-instruction k u = cond-true (ue m st inputs k) _ _ u

  pub next-instruction-kept : (k : ℕ) → ue m st inputs k ≡ false
      → (next_stage m st inputs (suc k)).instruction ≡ (st.stage (suc k)).instruction
  unfolding next_stage
  next-instruction-kept k u = cond-false (ue m st inputs k) _ _ u

  -- The value of a target after the cycle: without an update of its write stage, not written, written.
  pub visible-kept : (t a : ℕ) → ue m st inputs (m.write_stage t) ≡ false → next_visible m st inputs t a ≡ st.visible t a
  unfolding next_visible
  visible-kept t a u = cond-false _ _ _ (and_left (ue m st inputs (m.write_stage t)) _ u)

  pub visible-other : (t a : ℕ) → is_written m (st.stage (m.write_stage t)).instruction t a ≡ false
      → next_visible m st inputs t a ≡ st.visible t a
  unfolding next_visible
  visible-other t a w = cond-false _ _ _ (and_right (ue m st inputs (m.write_stage t)) _ w)

  pub visible-written : (t a : ℕ) → ue m st inputs (m.write_stage t) ≡ true
      → is_written m (st.stage (m.write_stage t)).instruction t a ≡ true
      → next_visible m st inputs t a ≡ unwrap_or (first_value ((st.stage (m.write_stage t)).instruction.results t) ((outcome m st inputs (m.write_stage t)).sets t)) 0
  unfolding next_visible
  visible-written t a u w = cond-true _ _ _ (and_from (ue m st inputs (m.write_stage t)) _ u w)

  -- no stage from `back` up mismatches
  pub no_mismatch : (k : ℕ) → back m st inputs ≤ k → k < m.stages → (st.stage k).full ≡ true
      → AllByRecursion (λ p. differs ((above m st inputs k).truth p.register 0) p.value ≡ false) (st.stage k).pending
  unfolding back
  no_mismatch k b h f =
      let e : ((st.stage k).full && some_differs (above m st inputs k).truth (st.stage k).pending) ≡ false = greatest-above (mismatches m st inputs) m.stages k b h in
      let q : some_differs (above m st inputs k).truth (st.stage k).pending ≡ false = (rw f at e) in
      no_differs (above m st inputs k).truth (st.stage k).pending q

  -- The stage just below `back` mismatches.
  pub back-mismatch : (r : ℕ) → back m st inputs ≡ suc r
      → ((st.stage r).full ≡ true) × (some_differs (above m st inputs r).truth (st.stage r).pending ≡ true) × (r < m.stages)
  unfolding back
  back-mismatch r e =
      let p = greatest-at (mismatches m st inputs) m.stages r e in
      let q = and_parts (st.stage r).full (some_differs (above m st inputs r).truth (st.stage r).pending) p.0 in
      (q.0, q.1, p.1)

module _ (m : Machine) (acc : Accepted m) (st : PipelineState) (inputs : Inputs) where
  -- A guess is made two stages or more below its register's write stage.
  pub guessed-in : (k : ℕ) → k < m.stages → AllByRecursion (GuessedIn m k) (outcome m st inputs k).guesses
  unfolding outcome
  guessed-in k b = run-guessed m k (above m st inputs k).truth st.hints (m.body k inputs.samples (st.stage k).instruction.pipes) (acc.fits k inputs.samples (st.stage k).instruction.pipes b)

  -- the truth just below the write stage is the register's next value
  pub truth-last : (t a k : ℕ) → m.has_result t ≡ true → m.write_stage t ≡ suc k → back m st inputs ≤ suc k
      → stall m st inputs (suc k) ≡ false
      → (above m st inputs k).truth t a ≡ Some (next_visible m st inputs t a)
  truth-last t a k h e b s = truth-in m st inputs k t a in' ∙ ⊎_elim full is_empty (cases_Bool (st.stage (suc k)).full)
    where
      in' : suc k < m.stages
      in' = let x : m.write_stage t < m.stages = acc.writes t h in omega arith

      own : (above m st inputs (suc k)).truth t a ≡ Some (st.visible t a)
      own = truth-own m st inputs t a (m.stages - suc (suc k)) (suc k) (omega arith) (λ _. omega arith)

      near : candidate_hits m st (suc k) t a ≡ hits m st (suc k) t a
      near = ap (λ (x : Bool). x && hits m st (suc k) t a) (and_from (m.has_result t) (leb (suc k) (m.write_stage t)) h (le-leb (suc k) (m.write_stage t) (omega arith)))

      is_empty : (st.stage (suc k)).full ≡ false
          → cond (candidate_hits m st (suc k) t a) (forwarded m st inputs (suc k) t) ((above m st inputs (suc k)).truth t a) ≡ Some (next_visible m st inputs t a)
      is_empty f =
          cond-false _ _ _ (near ∙ and_left (st.stage (suc k)).full _ f) ∙ own ∙ ap Some (sym (visible-kept m st inputs t a (rw e (ue-empty m st inputs (suc k) f))))

      full : (st.stage (suc k)).full ≡ true
          → cond (candidate_hits m st (suc k) t a) (forwarded m st inputs (suc k) t) ((above m st inputs (suc k)).truth t a) ≡ Some (next_visible m st inputs t a)
      full f = ⊎_elim
          (λ q.
          let l : eqb (suc k) (m.write_stage t) ≡ true = eq-eqb (suc k) (m.write_stage t) (sym e) in
          let u : ue m st inputs (m.write_stage t) ≡ true = rw e (ue-from m st inputs (suc k) f s b) in
          let x : forwarded m st inputs (suc k) t ≡ Some (unwrap_or (first_value ((st.stage (suc k)).instruction.results t) ((outcome m st inputs (suc k)).sets t)) 0)
          = rw (known, s, l) (ok_value-last ((st.stage (suc k)).instruction.results t) ((outcome m st inputs (suc k)).sets t)) in
          let y : next_visible m st inputs t a ≡ unwrap_or (first_value ((st.stage (suc k)).instruction.results t) ((outcome m st inputs (suc k)).sets t)) 0
          = (rw e at (visible-written m st inputs t a u (w ∙ q))) in
          cond-true _ _ _ (n ∙ q) ∙ x ∙ ap Some (sym y))
          (λ q. cond-false _ _ _ (n ∙ q) ∙ own ∙ ap Some (sym (visible-other m st inputs t a (w ∙ q))))
          (cases_Bool (intends m (st.stage (suc k)).instruction t a))
        where
          known : intent_known m (suc k) t ≡ true
          known = let x : m.known_from t ≤ m.write_stage t = acc.knows t h in le-leb (m.known_from t) (suc k) (omega arith)

          n : candidate_hits m st (suc k) t a ≡ (intends m (st.stage (suc k)).instruction t a)
          n = near ∙ ap₂ (λ (x : Bool) (y : Bool). x && (not y || (intends m (st.stage (suc k)).instruction t a))) f known

          w : is_written m (st.stage (m.write_stage t)).instruction t a ≡ (intends m (st.stage (suc k)).instruction t a)
          w = ap₂ (λ (x : Bool) (j : ℕ). x && (intends m (st.stage j).instruction t a)) h e
