use Rattle.std.proofs.Common.{◌≡◌, ℕ, zero, suc, ◌+◌, ◌-◌, ◌<◌, ◌≤◌, true, false, not, eqb, List, ◌++◌, refl, sym, ap, ◌∙◌, subst, ⊎_elim, arith}
use Rattle.std.specs.List.{AllByRecursion}
use Rattle.std.proofs.lemmas.Bool.{cases_Bool, cases_lt, cases_eq, both_ways, ne_eqb, not_from_false}
use Rattle.kp_pipeline.specs.{Machine.Machine, Sequential.PendingGuess, Sequential.before_stage, Sequential.instruction_before, Sequential.seq}
use Rattle.kp_pipeline.specs.Pipeline.{Inputs, PipelineState, above, back, cycle, differs, next_stage, next_visible, outcome, stall, ue}
use Rattle.kp_pipeline.specs.{Accepted.Accepted, Claims.StandsBefore}
use Rattle.kp_pipeline.proofs.{Lists.all-both, Lists.all-map, Lists.all-parts, Lists.all-passing, Cycle.ue-from, Cycle.ue-parts}
use Rattle.kp_pipeline.proofs.Movement.{count-moved, count-stays, kept-below, next-from, next-kept, next-moved, next_count, no_stall-above, stall-full, ue-stalled}
use Rattle.kp_pipeline.proofs.{Sequential.GuessedIn, Agreement.IsRight, Invariant.Inv, Invariant.Met, Invariant.RightAt}
use Rattle.kp_pipeline.proofs.Truths.{MadeRight, RightAbove, TruthIsRight, computes, truth-right}
use Rattle.kp_pipeline.proofs.NextState.{differs-not, guessed-in, next-instruction, next-instruction-kept, next-pending, next-pending-kept, no_mismatch, truth-last}

module _ (m : Machine) (acc : Accepted m) (s given : ℕ → ℕ → ℕ) (st : PipelineState) (inputs : Inputs) (count updates : ℕ → ℕ) (inv : Inv m s given st count updates) (met : Met m given st inputs count) where
  -- what stage j holds after the cycle is guessed right
  abbrev pub NextRight : ℕ → Type 0
  NextRight j = RightAt m s given (cycle m st inputs) (next_count m st inputs count) j

  abbrev pub NextRightAbove : ℕ → Type 0
  NextRightAbove k = (j : ℕ) → k < j → j < m.stages → NextRight j

  pub truth-at : (k : ℕ) → k < m.stages → back m st inputs ≤ suc k → RightAbove m s given st inputs count k
      → TruthIsRight m s given st inputs count k
  truth-at k b r up = truth-right m acc s given st inputs count updates inv met (m.stages - suc k) k (omega arith) r up

  -- what leaves the stage below its write stage was compared for good
  pub leaving : (k : ℕ) → k < m.stages → ue m st inputs k ≡ true → RightAbove m s given st inputs count k
      → AllByRecursion (λ p. m.write_stage p.register ≡ suc k → IsRight (seq m s given (count k)) p) (st.stage k).pending
  leaving k b u up =
      all-both (λ p. differs ((above m st inputs k).truth p.register 0) p.value ≡ false) (StandsBefore m k) (λ p. m.write_stage p.register ≡ suc k → IsRight (seq m s given (count k)) p) each
      (st.stage k).pending (no_mismatch m st inputs k bk b (ue-parts m st inputs k u).0) (inv.between k b)
    where
      bk : back m st inputs ≤ k
      bk = (ue-parts m st inputs k u).2

      each : (p : PendingGuess) → differs ((above m st inputs k).truth p.register 0) p.value ≡ false → StandsBefore m k p
          → m.write_stage p.register ≡ suc k → IsRight (seq m s given (count k)) p
      each p d h e =
          let i : m.write_stage p.register < m.stages = acc.writes p.register h.0 in
          let z : back m st inputs ≤ k = bk in
          let seen = truth-last m acc st inputs p.register 0 k h.0 e (omega arith) (no_stall-above m st inputs k (omega arith) u) in
          differs-not ((above m st inputs k).truth p.register 0) (next_visible m st inputs p.register 0) p.value seen d
          ∙ truth-at k b (omega arith) up p.register 0 (next_visible m st inputs p.register 0) (λ _. omega arith) seen

  -- what moved on, seen after the cycle
  moved-right : (k : ℕ) → suc k < m.stages → ue m st inputs k ≡ true → NextRight (suc k)
      → AllByRecursion (λ p. not (eqb (m.write_stage p.register) (suc k)) ≡ true → IsRight (seq m s given (count k)) p) ((outcome m st inputs k).guesses ++ (st.stage k).pending)
  moved-right k b u right =
      let x = right (next-moved m st inputs k u) in
      let y : AllByRecursion (IsRight (seq m s given (count k))) (next_stage m st inputs (suc k)).pending
      = subst (λ (n : ℕ). AllByRecursion (IsRight (seq m s given n)) (next_stage m st inputs (suc k)).pending) (count-moved m st inputs count inv.chain k b u) x in
      all-passing (IsRight (seq m s given (count k))) (λ p. not (eqb (m.write_stage p.register) (suc k))) ((outcome m st inputs k).guesses ++ (st.stage k).pending)
      (subst (λ (l : List PendingGuess). AllByRecursion (IsRight (seq m s given (count k))) l) (next-pending m st inputs k u) y)

  -- right guesses after the cycle, and right ones above: right guesses before it
  pub made-right : (k : ℕ) → k < m.stages → NextRightAbove k → MadeRight m s given st inputs count k
  made-right k b up u =
      ⊎_elim
      (λ (i : suc k < m.stages).
      all-both (GuessedIn m k) (λ p. not (eqb (m.write_stage p.register) (suc k)) ≡ true → IsRight (seq m s given (count k)) p) (IsRight (seq m s given (count k)))
      (λ p h g. g (not_from_false _ (ne_eqb (m.write_stage p.register) (suc k) (λ e. let x : k + 2 ≤ m.write_stage p.register = h.1 in omega arith))))
      (outcome m st inputs k).guesses (guessed-in m acc st inputs k b)
      (all-parts _ (outcome m st inputs k).guesses (st.stage k).pending (moved-right k i u (up (suc k) (omega arith) i))).0)
      (λ (i : m.stages ≤ suc k).
      all-map (GuessedIn m k) (IsRight (seq m s given (count k)))
      (λ p h. let x : m.write_stage p.register < m.stages = acc.writes p.register h.0 in let y : k + 2 ≤ m.write_stage p.register = h.1 in absurd (omega arith)) (outcome m st inputs k).guesses (guessed-in m acc st inputs k b))
      (cases_lt (suc k) m.stages)

  -- The pending guesses of a stage were right if they are right after the cycle, or leave it now.
  pub pending-right : (k : ℕ) → k < m.stages → back m st inputs ≤ k → RightAbove m s given st inputs count k → NextRightAbove k
      → (stall m st inputs k ≡ true → NextRight k) → RightAt m s given st count k
  pending-right zero b r up next here f = rw (inv.first) tt
  pending-right (suc k) b r up next here f = ⊎_elim
      (λ q.
      let x = here q (next-kept m st inputs k r q) in
      let y : AllByRecursion (IsRight (seq m s given (count (suc k)))) (next_stage m st inputs (suc k)).pending
      = subst (λ (n : ℕ). AllByRecursion (IsRight (seq m s given n)) (next_stage m st inputs (suc k)).pending) (count-stays m st inputs count (suc k) r (ue-stalled m st inputs (suc k) q)) x in
      subst (λ (l : List PendingGuess). AllByRecursion (IsRight (seq m s given (count (suc k)))) l) (next-pending-kept m st inputs k (kept-below m st inputs k b q)) y)
      (λ q.
      let u = ue-from m st inputs (suc k) f q r in
      ⊎_elim
      (λ (i : suc (suc k) < m.stages).
      all-both (λ p. m.write_stage p.register ≡ suc (suc k) → IsRight (seq m s given (count (suc k))) p) (λ p. not (eqb (m.write_stage p.register) (suc (suc k))) ≡ true → IsRight (seq m s given (count (suc k))) p) (IsRight (seq m s given (count (suc k))))
      (λ p x y. ⊎_elim x (λ n. y (not_from_false _ (ne_eqb (m.write_stage p.register) (suc (suc k)) n))) (cases_eq (m.write_stage p.register) (suc (suc k))))
      (st.stage (suc k)).pending (leaving (suc k) b u up)
      (all-parts _ (outcome m st inputs (suc k)).guesses (st.stage (suc k)).pending (moved-right (suc k) i u (next (suc (suc k)) (omega arith) i))).1)
      (λ (i : m.stages ≤ suc (suc k)).
      all-map (StandsBefore m (suc k)) (IsRight (seq m s given (count (suc k))))
      (λ p h. let x : m.write_stage p.register < m.stages = acc.writes p.register h.0 in let y : suc k < m.write_stage p.register = h.1 in absurd (omega arith)) (st.stage (suc k)).pending (inv.between (suc k) b))
      (cases_lt (suc (suc k)) m.stages))
      (cases_Bool (stall m st inputs (suc k)))

  -- All of them, from the last stage down: right guesses above after the cycle were right before it.
  pub settle : (d k : ℕ) → suc (k + d) ≡ m.stages → back m st inputs ≤ suc k → NextRightAbove k
      → RightAbove m s given st inputs count k
  settle zero k e r next j x y = absurd (omega arith)
  settle (suc d) k e r next j x y =
      let up : RightAbove m s given st inputs count (suc k) = settle d (suc k) (omega arith) (omega arith) (λ i p q. next i (omega arith) q) in
      ⊎_elim (λ (p : suc k < j). up j p y)
      (λ (p : j ≤ suc k).
      let q : suc k ≡ j = omega arith in
      subst (λ (n : ℕ). RightAt m s given st count n × MadeRight m s given st inputs count n) q (
        pending-right (suc k) (omega arith) r up (λ i a b. next i (omega arith) b) (λ _. next (suc k) (omega arith) (omega arith)),
        made-right (suc k) (omega arith) (λ i a b. next i (omega arith) b),
      ))
      (cases_lt (suc k) j)

  pub settle-at : (k : ℕ) → k < m.stages → back m st inputs ≤ suc k → NextRightAbove k → RightAbove m s given st inputs count k
  settle-at k b r next = settle (m.stages - suc k) k (omega arith) r next

  -- part (b) after the cycle
  pub held-kept : (k : ℕ) → k < m.stages → (next_stage m st inputs k).full ≡ true → ((j : ℕ) → k ≤ j → j < m.stages → NextRight j)
      → (next_stage m st inputs k).instruction ≡ instruction_before m s given (next_count m st inputs count k) k
  unfolding next_stage before_stage
  held-kept zero b f next = refl
  held-kept (suc k) b f next =
      let p = next-from m st inputs k f in
      ⊎_elim
      (λ (u : ue m st inputs k ≡ true).
      let bk = (ue-parts m st inputs k u).2 in
      let up = settle-at k (omega arith) p.0 (λ j x y. next j x y) in
      let here = pending-right k (omega arith) bk up (λ j x y. next j x y) (λ q. absurd (both_ways (stall m st inputs k) (ue-parts m st inputs k u).1 q)) in
      next-instruction m st inputs k u
      ∙ computes m acc s given st inputs count updates inv met k (omega arith) u (truth-at k (omega arith) p.0 up) up here (made-right k (omega arith) (λ j x y. next j x y))
      ∙ ap (λ (n : ℕ). instruction_before m s given n (suc k)) (sym (count-moved m st inputs count inv.chain k b u)))
      (λ (q : stall m st inputs (suc k) ≡ true).
      let up = settle-at (suc k) b (omega arith) (λ j x y. next j (omega arith) y) in
      let here = pending-right (suc k) b p.0 up (λ j x y. next j (omega arith) y) (λ _. next (suc k) (omega arith) b) in
      next-instruction-kept m st inputs k (kept-below m st inputs k b q)
      ∙ inv.held (suc k) b (stall-full m st inputs (suc k) q)
      (λ j x y. ⊎_elim (λ (i : suc k < j). (up j i y).0) (λ i. let w : suc k ≡ j = omega arith in subst (λ (n : ℕ). RightAt m s given st count n) w here) (cases_lt (suc k) j))
      ∙ ap (λ (n : ℕ). instruction_before m s given n (suc k)) (sym (count-stays m st inputs count (suc k) p.0 (ue-stalled m st inputs (suc k) q))))
      p.1
