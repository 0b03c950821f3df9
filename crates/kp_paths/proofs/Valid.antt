-- RESULTS THAT ARE SET, and those that aren't, in each state of a run.
use Rattle.std.proofs.Common.{◌≡◌, ◌∙◌, ℕ, zero, suc, ◌<◌, ◌≤◌, Bool, true, false, ◌||◌, not, eqb, List, [], ◌∷◌, Option, Some, None, refl, ap, subst, ⊎_elim, arith, eq-eqb}
use Rattle.std.proofs.lemmas.Bool.{and_from, cases_Bool, cases_lt, eqb-true, false_from_ne_true, or_left, or_right}
use Rattle.std.specs.Prelude.{is_some, ◌≢◌}
use Rattle.kp_pipeline.specs.Pipeline.{Inputs, PipelineState, above, candidate_hits, cycle, forwarded, hits, intent_known, is_candidate, next_stage, ok_value, outcome, pipeline_start, stall, ue}
use Rattle.kp_pipeline.specs.{Machine.Machine, Sequential.Instruction, Sequential.first_value, Sequential.intends, Rows.state_after}
use Rattle.kp_pipeline.proofs.{Cycle.ue-parts, Ends.run-ends, Movement.next-from, Movement.stall-full}
use Rattle.kp_pipeline.proofs.NextState.{next-instruction, next-instruction-kept}
use Rattle.kp_paths.specs.Claims.{HasNoValue, HasValue, SetsAlways, SetsNever, state_at}

-- of two optional values
some_first : (o n : Option ℕ) → is_some o ≡ true → is_some (first_value o n) ≡ true
some_first None n h = cc
some_first (Some v) n h = refl

some_later : (o n : Option ℕ) → is_some n ≡ true → is_some (first_value o n) ≡ true
some_later None n h = h
some_later (Some v) n h = refl

none_both : (o n : Option ℕ) → o ≡ None → n ≡ None → first_value o n ≡ None
none_both None n h g = g
none_both (Some v) n h g = h

-- an invariant of a cycle is one of a run
along : (P : PipelineState → Type 0) (m : Machine) → ((st : PipelineState) (inputs : Inputs) → P st → P (cycle m st inputs))
    → (st : PipelineState) (ins : List Inputs) (T : ℕ) → P st → P (state_after m st ins T)
along P m next st ins zero h = h
along P m next st [] (suc T) h = h
along P m next st (i ∷ ins) (suc T) h = along P m next (cycle m st i) ins T (next st i h)

module _ (m : Machine) (t : ℕ) where
  -- In a full stage above one that always sets the result, the result is set.
  abbrev pub AreSet : PipelineState → Type 0
  AreSet st = (k i : ℕ) → (st.stage k).full ≡ true → i < k → SetsAlways m i t → is_some ((st.stage k).instruction.results t) ≡ true

  -- In a stage of which none below sets the result, it isn't set.
  abbrev pub AreUnset : PipelineState → Type 0
  AreUnset st = (k : ℕ) → ((i : ℕ) → i < k → SetsNever m i t) → (st.stage k).instruction.results t ≡ None

  start-set : (s : ℕ → ℕ → ℕ) (hints : ℕ → ℕ) → AreSet (pipeline_start s hints)
  start-set s hints zero i f l a = absurd (omega arith)
  start-set s hints (suc k) i f l a = cc

  start-unset : (s : ℕ → ℕ → ℕ) (hints : ℕ → ℕ) → AreUnset (pipeline_start s hints)
  start-unset s hints zero a = refl
  start-unset s hints (suc k) a = refl

  module _ (st : PipelineState) (inputs : Inputs) where
    -- what stage k does, if it always or never sets the result
    sets_some : (k : ℕ) → SetsAlways m k t → is_some ((outcome m st inputs k).sets t) ≡ true
    unfolding outcome
    sets_some k a = run-ends (λ puts sets. is_some (sets t) ≡ true) (above m st inputs k).truth st.hints (m.body k inputs.samples (st.stage k).instruction.pipes) (a inputs.samples (st.stage k).instruction.pipes)

    sets_none : (k : ℕ) → SetsNever m k t → (outcome m st inputs k).sets t ≡ None
    unfolding outcome
    sets_none k a = run-ends (λ puts sets. sets t ≡ None) (above m st inputs k).truth st.hints (m.body k inputs.samples (st.stage k).instruction.pipes) (a inputs.samples (st.stage k).instruction.pipes)

    moved-results : (k : ℕ) → ue m st inputs k ≡ true
        → (next_stage m st inputs (suc k)).instruction.results t ≡ first_value ((st.stage k).instruction.results t) ((outcome m st inputs k).sets t)
    moved-results k u = ap (λ (c : Instruction). c.results t) (next-instruction m st inputs k u)

    kept-results : (k : ℕ) → ue m st inputs k ≡ false
        → (next_stage m st inputs (suc k)).instruction.results t ≡ (st.stage (suc k)).instruction.results t
    kept-results k u = ap (λ (c : Instruction). c.results t) (next-instruction-kept m st inputs k u)

    next-set : AreSet st → AreSet (cycle m st inputs)
    next-set h zero i f l a = absurd (omega arith)
    next-set h (suc k) i f l a = ⊎_elim moved kept (cases_Bool (ue m st inputs k))
      where
        moved : ue m st inputs k ≡ true → is_some ((next_stage m st inputs (suc k)).instruction.results t) ≡ true
        moved u = rw (moved-results k u) (⊎_elim
            (λ (b : i < k). some_first ((st.stage k).instruction.results t) ((outcome m st inputs k).sets t) (h k i (ue-parts m st inputs k u).0 b a))
            (λ (b : k ≤ i).
            let e : i ≡ k = omega arith in
            some_later ((st.stage k).instruction.results t) ((outcome m st inputs k).sets t) (sets_some k (subst (λ (n : ℕ). SetsAlways m n t) e a)))
            (cases_lt i k))

        kept : ue m st inputs k ≡ false → is_some ((next_stage m st inputs (suc k)).instruction.results t) ≡ true
        kept u = rw (kept-results k u) (⊎_elim
            (λ (v : ue m st inputs k ≡ true). cc)
            (λ (w : stall m st inputs (suc k) ≡ true). h (suc k) i (stall-full m st inputs (suc k) w) l a)
            (next-from m st inputs k f).1)

    next-unset : AreUnset st → AreUnset (cycle m st inputs)
    unfolding next_stage
    next-unset h zero a = refl
    next-unset h (suc k) a = ⊎_elim moved kept (cases_Bool (ue m st inputs k))
      where
        moved : ue m st inputs k ≡ true → (next_stage m st inputs (suc k)).instruction.results t ≡ None
        moved u = moved-results k u ∙ none_both ((st.stage k).instruction.results t) ((outcome m st inputs k).sets t) (h k (λ i l. a i (omega arith))) (sets_none k (a k (omega arith)))

        kept : ue m st inputs k ≡ false → (next_stage m st inputs (suc k)).instruction.results t ≡ None
        kept u = kept-results k u ∙ h (suc k) a

  -- in each state of a run
  pub run-set : (s : ℕ → ℕ → ℕ) (hints : ℕ → ℕ) (ins : List Inputs) (T : ℕ) → AreSet (state_at m s hints ins T)
  run-set s hints ins T = along AreSet m next-set (pipeline_start s hints) ins T (start-set s hints)

  pub run-unset : (s : ℕ → ℕ → ℕ) (hints : ℕ → ℕ) (ins : List Inputs) (T : ℕ) → AreUnset (state_at m s hints ins T)
  run-unset s hints ins T = along AreUnset m next-unset (pipeline_start s hints) ins T (start-unset s hints)

-- WHAT IS FORWARDED.
pub some_is : (o : Option ℕ) → is_some o ≡ true → (v : ℕ) × (o ≡ Some v)
some_is None h = cc
some_is (Some v) h = (v, refl)

ok_some : (stored fresh : Option ℕ) (last : Bool) → (is_some stored || (is_some fresh || last)) ≡ true → is_some (ok_value true stored false fresh last) ≡ true
ok_some (Some v) fresh last h = refl
ok_some None (Some v) last h = refl
ok_some None None true h = refl
ok_some None None false h = h

ok_none : (stored : Option ℕ) (stalled : Bool) (fresh : Option ℕ) → stored ≡ None → fresh ≡ None → ok_value true stored stalled fresh false ≡ None
ok_none (Some v) stalled fresh h g = h
ok_none None true fresh h g = refl
ok_none None false (Some v) h g = g
ok_none None false None h g = refl

module _ (m : Machine) (s : ℕ → ℕ → ℕ) (hints : ℕ → ℕ) (ins : List Inputs) (T : ℕ) (inputs : Inputs) (t j : ℕ) where
  abbrev st : PipelineState
  st = state_at m s hints ins T

  abbrev stored : Option ℕ
  stored = (st.stage j).instruction.results t

  abbrev fresh : Option ℕ
  fresh = (outcome m st inputs j).sets t

  abbrev last : Bool
  last = eqb j (m.write_stage t)

  pub gives : HasValue m t j → (st.stage j).full ≡ true → stall m st inputs j ≡ false → (v : ℕ) × (forwarded m st inputs j t ≡ Some v)
  gives h f w = some_is (forwarded m st inputs j t) (rw (h.known, w) (ok_some stored fresh last (⊎_elim written set h.set)))
    where
      written : j ≡ m.write_stage t → (is_some stored || (is_some fresh || last)) ≡ true
      written e = or_right (is_some stored) (is_some fresh || last) (or_right (is_some fresh) last (eq-eqb j (m.write_stage t) e))

      set : ((i : ℕ) × (i ≤ j) × SetsAlways m i t) → (is_some stored || (is_some fresh || last)) ≡ true
      set a = ⊎_elim
          (λ (b : a.0 < j). or_left (is_some stored) (is_some fresh || last) (run-set m t s hints ins T j a.0 f b a.2))
          (λ (b : j ≤ a.0).
          let l : a.0 ≤ j = a.1 in
          let e : a.0 ≡ j = omega arith in
          or_right (is_some stored) (is_some fresh || last)
          (or_left (is_some fresh) last (sets_some m t st inputs j (subst (λ (n : ℕ). SetsAlways m n t) e a.2))))
          (cases_lt a.0 j)

  pub gives_none : HasNoValue m t j → forwarded m st inputs j t ≡ None
  gives_none h = ⊎_elim
      (λ (e : intent_known m j t ≡ false). rw e refl)
      (λ (a : (j ≢ m.write_stage t) × ((i : ℕ) → i ≤ j → SetsNever m i t)). ⊎_elim
      (λ (e : intent_known m j t ≡ true).
      let l : eqb j (m.write_stage t) ≡ false = false_from_ne_true (eqb j (m.write_stage t)) (λ y. a.0 (eqb-true j (m.write_stage t) y)) in
      rw (e, l) (ok_none stored (stall m st inputs j) fresh (run-unset m t s hints ins T j (λ i b. a.1 i (omega arith))) (sets_none m t st inputs j (a.1 j (omega arith)))))
      (λ (e : intent_known m j t ≡ false). rw e refl)
      (cases_Bool (intent_known m j t)))
      h

-- A full stage whose intent isn't known hits at every address.
pub hits_all : (m : Machine) (st : PipelineState) (t j a : ℕ) → is_candidate m j t ≡ true → intent_known m j t ≡ false
    → (st.stage j).full ≡ true → candidate_hits m st j t a ≡ true
hits_all m st t j a c u f =
    and_from (is_candidate m j t) (hits m st j t a) c
    (and_from (st.stage j).full _ f (or_left (not (intent_known m j t)) (intends m (st.stage j).instruction t a) (ap not u)))
