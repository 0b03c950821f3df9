use Rattle.std.proofs.Common.{refl, ◌≡◌, ℕ, zero, suc, ◌+◌, ◌-◌, ◌<◌, ◌≤◌, true, false, not, eqb, List, ◌++◌, Some, None, sym, ◌∙◌, subst, ⊎_elim, arith}
use Rattle.std.specs.List.{AllByRecursion}
use Rattle.std.proofs.lemmas.Bool.{cases_Bool, cases_lt, not-true, eqb-false, cond-false, both_ways, false_from_ne_true, and_left, and_right}
use Rattle.kp_pipeline.specs.Pipeline.{Inputs, PipelineState, above, back, candidate_hits, cycle, differs, is_candidate, next_stage, next_visible, outcome, pipeline_start, stall, start_stage, ue}
use Rattle.kp_pipeline.specs.{Machine.Machine, Sequential.PendingGuess, Accepted.Accepted, Claims.StandsBefore}
use Rattle.kp_pipeline.proofs.{Lists.all-append, Lists.all-both, Lists.all-kept, Lists.all-map, Cycle.truth-in, Cycle.ue-from, Cycle.ue-parts}
use Rattle.kp_pipeline.proofs.Movement.{chain-kept, kept-below, kept-full, moves-above, next-from, next-moved, next_count, stall-full}
use Rattle.kp_pipeline.proofs.{Sequential.GuessedIn, Sequential.run-absent, Invariant.IsNear, Invariant.Shape}
use Rattle.kp_pipeline.proofs.NextState.{differs-not, guessed-in, next-pending, next-pending-kept, no_mismatch, truth-last}

module _ (m : Machine) (acc : Accepted m) (st : PipelineState) (inputs : Inputs) where
  -- with nothing full up to the write stage, and nothing stalled there, the truth is the next own value
  truth-near : (t : ℕ) → m.has_result t ≡ true → stall m st inputs (m.write_stage t) ≡ false → back m st inputs ≤ m.write_stage t
      → (d k : ℕ) → suc (k + d) ≡ m.write_stage t
      → ((j : ℕ) → k < j → j < m.write_stage t → (st.stage j).full ≡ false)
      → (above m st inputs k).truth t 0 ≡ Some (next_visible m st inputs t 0)
  truth-near t h c b zero k e gap =
      let w : m.write_stage t ≡ suc k = omega arith in
      truth-last m acc st inputs t 0 k h w (omega arith) (rw (sym w) c)
  truth-near t h c b (suc d) k e gap =
      let i : m.write_stage t < m.stages = acc.writes t h in
      truth-in m st inputs k t 0 (omega arith)
      ∙ cond-false (candidate_hits m st (suc k) t 0) _ _ (and_right (is_candidate m (suc k) t) _ (and_left (st.stage (suc k)).full _ (gap (suc k) (omega arith) (omega arith))))
      ∙ truth-near t h c b d (suc k) (omega arith) (λ j x y. gap j (omega arith) y)

  -- nothing full after the cycle from k + 1 to w: nothing full before it below w, and no stall in w
  gap-before : (k w : ℕ) → back m st inputs ≤ suc k → ((j : ℕ) → k < j → j ≤ w → (next_stage m st inputs j).full ≡ false)
      → (j : ℕ) → k < j → j < w → (st.stage j).full ≡ false
  gap-before k w b gap j x y =
      false_from_ne_true _ (λ f. ⊎_elim
      (λ q. both_ways _ (gap j x (omega arith)) (kept-full m st inputs j (omega arith) q))
      (λ q. both_ways _ (gap (suc j) (omega arith) y) (next-moved m st inputs j (ue-from m st inputs j f q (omega arith))))
      (cases_Bool (stall m st inputs j)))

  no_stall-last : (k w : ℕ) → back m st inputs ≤ suc k → k < w
      → ((j : ℕ) → k < j → j ≤ w → (next_stage m st inputs j).full ≡ false) → stall m st inputs w ≡ false
  no_stall-last k w b x gap = false_from_ne_true _ (λ q. both_ways _ (gap w x (omega arith)) (kept-full m st inputs w (omega arith) q))

-- what is carried into the next stage isn't yet at its write stage
pub stands-further : (m : Machine) (k : ℕ) (p : PendingGuess) → StandsBefore m k p
    → not (eqb (m.write_stage p.register) (suc k)) ≡ true → suc k < m.write_stage p.register
stands-further m k p h n =
    let x : k < m.write_stage p.register = h.1 in
    ⊎_elim (λ (q : suc k < m.write_stage p.register). q)
    (λ (q : m.write_stage p.register ≤ suc k). absurd (eqb-false (m.write_stage p.register) (suc k) (not-true _ n) (omega arith)))
    (cases_lt (suc k) (m.write_stage p.register))

module _ (m : Machine) (acc : Accepted m) (st : PipelineState) (inputs : Inputs) (count : ℕ → ℕ) (shape : Shape m st count) where
  -- part (d) after the cycle
  pub between-kept : (k : ℕ) → k < m.stages → AllByRecursion (StandsBefore m k) (next_stage m st inputs k).pending
  unfolding next_stage
  between-kept zero b = tt
  between-kept (suc k) b = ⊎_elim
      (λ u. subst (λ (l : List PendingGuess). AllByRecursion (StandsBefore m (suc k)) l) (sym (next-pending m st inputs k u))
      (all-kept (StandsBefore m (suc k)) (λ p. not (eqb (m.write_stage p.register) (suc k))) ((outcome m st inputs k).guesses ++ (st.stage k).pending)
      (all-append _ (outcome m st inputs k).guesses (st.stage k).pending
      (all-map (GuessedIn m k) (λ p. not (eqb (m.write_stage p.register) (suc k)) ≡ true → StandsBefore m (suc k) p) (λ p h _. (h.0, (let x : k + 2 ≤ m.write_stage p.register = h.1 in let y : suc k < m.write_stage p.register = omega arith in y), h.2)) (outcome m st inputs k).guesses (guessed-in m acc st inputs k (omega arith)))
      (all-map (StandsBefore m k) (λ p. not (eqb (m.write_stage p.register) (suc k)) ≡ true → StandsBefore m (suc k) p) (λ p h n. (h.0, stands-further m k p h n, h.2)) (st.stage k).pending (shape.between k (omega arith))))))
      (λ u. subst (λ (l : List PendingGuess). AllByRecursion (StandsBefore m (suc k)) l) (sym (next-pending-kept m st inputs k u)) (shape.between (suc k) b))
      (cases_Bool (ue m st inputs k))

  absent-here : (k : ℕ) → AllByRecursion (λ p. (above m st inputs k).truth p.register 0 ≡ None) (outcome m st inputs k).guesses
  unfolding outcome
  absent-here k = run-absent (above m st inputs k).truth st.hints (m.body k inputs.samples (st.stage k).instruction.pipes)

  -- part (c) after the cycle
  pub near-kept : (k : ℕ) → k < m.stages → (next_stage m st inputs k).full ≡ true
      → AllByRecursion (IsNear m (cycle m st inputs) k) (next_stage m st inputs k).pending
  unfolding next_stage
  near-kept zero b f = tt
  near-kept (suc k) b f = let p = next-from m st inputs k f in ⊎_elim (moved p.0) (kept p.0) p.1
    where
      kept : back m st inputs ≤ suc k → stall m st inputs (suc k) ≡ true
          → AllByRecursion (IsNear m (cycle m st inputs) (suc k)) (next_stage m st inputs (suc k)).pending
      kept r q =
          subst (λ (l : List PendingGuess). AllByRecursion (IsNear m (cycle m st inputs) (suc k)) l) (sym (next-pending-kept m st inputs k (kept-below m st inputs k b q)))
          (all-both (λ p. differs ((above m st inputs (suc k)).truth p.register 0) p.value ≡ false) (StandsBefore m (suc k)) (IsNear m (cycle m st inputs) (suc k)) each
          (st.stage (suc k)).pending (no_mismatch m st inputs (suc k) r b (stall-full m st inputs (suc k) q)) (shape.between (suc k) b))
        where
          each : (p : PendingGuess) → differs ((above m st inputs (suc k)).truth p.register 0) p.value ≡ false
              → StandsBefore m (suc k) p → IsNear m (cycle m st inputs) (suc k) p
          each p d h gap =
              let x : suc k < m.write_stage p.register = h.1 in
              let view = truth-near m acc st inputs p.register h.0 (no_stall-last m acc st inputs (suc k) (m.write_stage p.register) (omega arith) x gap) (omega arith) (m.write_stage p.register - suc (suc k)) (suc k) (omega arith)
              (gap-before m acc st inputs (suc k) (m.write_stage p.register) (omega arith) gap) in
              differs-not ((above m st inputs (suc k)).truth p.register 0) (next_visible m st inputs p.register 0) p.value view d

      moved : back m st inputs ≤ suc k → ue m st inputs k ≡ true
          → AllByRecursion (IsNear m (cycle m st inputs) (suc k)) (next_stage m st inputs (suc k)).pending
      moved r u =
          subst (λ (l : List PendingGuess). AllByRecursion (IsNear m (cycle m st inputs) (suc k)) l) (sym (next-pending m st inputs k u))
          (all-kept (IsNear m (cycle m st inputs) (suc k)) (λ p. not (eqb (m.write_stage p.register) (suc k))) ((outcome m st inputs k).guesses ++ (st.stage k).pending)
          (all-append _ (outcome m st inputs k).guesses (st.stage k).pending
          (all-both (λ p. (above m st inputs k).truth p.register 0 ≡ None) (GuessedIn m k) (λ p. not (eqb (m.write_stage p.register) (suc k)) ≡ true → IsNear m (cycle m st inputs) (suc k) p)
          new (outcome m st inputs k).guesses (absent-here k) (guessed-in m acc st inputs k (omega arith)))
          (all-both (λ p. differs ((above m st inputs k).truth p.register 0) p.value ≡ false) (StandsBefore m k) (λ p. not (eqb (m.write_stage p.register) (suc k)) ≡ true → IsNear m (cycle m st inputs) (suc k) p)
          old (st.stage k).pending (no_mismatch m st inputs k (ue-parts m st inputs k u).2 (omega arith) (ue-parts m st inputs k u).0) (shape.between k (omega arith)))))
        where
          view : (p : PendingGuess) → m.has_result p.register ≡ true → suc k < m.write_stage p.register
              → ((j : ℕ) → suc k < j → j ≤ m.write_stage p.register → (next_stage m st inputs j).full ≡ false)
              → (above m st inputs k).truth p.register 0 ≡ Some (next_visible m st inputs p.register 0)
          view p h x gap =
              truth-near m acc st inputs p.register h (no_stall-last m acc st inputs (suc k) (m.write_stage p.register) (omega arith) x gap) (omega arith) (m.write_stage p.register - suc k) k (omega arith)
              (λ j y z. ⊎_elim (λ (i : suc k < j). gap-before m acc st inputs (suc k) (m.write_stage p.register) (omega arith) gap j i z)
              (λ (i : j ≤ suc k). let e : suc k ≡ j = omega arith in
              subst (λ (n : ℕ). (st.stage n).full ≡ false) e
              (false_from_ne_true _ (λ q. both_ways _ (gap (suc (suc k)) (omega arith) (omega arith)) (next-moved m st inputs (suc k) (moves-above m st inputs k b u q)))))
              (cases_lt (suc k) j))

          new : (p : PendingGuess) → (above m st inputs k).truth p.register 0 ≡ None → GuessedIn m k p
              → not (eqb (m.write_stage p.register) (suc k)) ≡ true → IsNear m (cycle m st inputs) (suc k) p
          new p o h n gap =
              let x : k + 2 ≤ m.write_stage p.register = h.1 in
              let v = view p h.0 (omega arith) gap in
              cc

          old : (p : PendingGuess) → differs ((above m st inputs k).truth p.register 0) p.value ≡ false → StandsBefore m k p
              → not (eqb (m.write_stage p.register) (suc k)) ≡ true → IsNear m (cycle m st inputs) (suc k) p
          old p d h n gap =
              differs-not ((above m st inputs k).truth p.register 0) (next_visible m st inputs p.register 0) p.value (view p h.0 (stands-further m k p h n) gap) d

-- THE SHAPE holds at the start, and is kept by each cycle.
pub start-near : (P : ℕ → PendingGuess → Type 0) (k : ℕ) → AllByRecursion (P k) (start_stage k).pending
start-near P zero = tt
start-near P (suc k) = tt

pub shape-start : (m : Machine) (s : ℕ → ℕ → ℕ) (hints : ℕ → ℕ) → Shape m (pipeline_start s hints) (λ k. 0)
shape-start m s hints = record {
  chain = λ k b. refl;
  near = λ k b f. start-near (IsNear m (pipeline_start s hints)) k;
  between = λ k b. start-near (StandsBefore m) k;
  first = refl;
}

pub shape-kept : (m : Machine) (acc : Accepted m) (st : PipelineState) (i : Inputs) (count : ℕ → ℕ) → Shape m st count
    → Shape m (cycle m st i) (next_count m st i count)
unfolding next_stage
shape-kept m acc st i count shape = record {
  chain = chain-kept m st i count shape.chain;
  near = near-kept m acc st i count shape;
  between = between-kept m acc st i count shape;
  first = refl;
}
