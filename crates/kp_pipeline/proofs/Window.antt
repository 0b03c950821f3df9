use Rattle.std.proofs.Common.{◌≡◌, ℕ, suc, ◌+◌, ◌<◌, ◌≤◌, Bool, true, false, ◌&&◌, Option, Some, None, sym, ap, ◌∙◌, subst, ⊎_elim, arith}
use Rattle.std.{proofs.lemmas.Bool.cases_Bool, proofs.lemmas.Bool.cases_lt, specs.Prelude.unwrap_or}
use Rattle.kp_pipeline.specs.Machine.{Machine}
use Rattle.kp_pipeline.specs.Sequential.{Instruction, after_stage, before_stage, instruction_before, intends, is_written, seq}
use Rattle.kp_pipeline.specs.{Pipeline.Inputs, Pipeline.PipelineState, Pipeline.back, Pipeline.next_visible, Pipeline.outcome, Pipeline.ue, Accepted.Accepted}
use Rattle.kp_pipeline.{specs.Claims.StandsBefore, proofs.Lists.all-both, proofs.Lists.all-map, proofs.Cycle.ue-parts}
use Rattle.kp_pipeline.proofs.Movement.{count-one, next_count}
use Rattle.kp_pipeline.proofs.Sequential.{GuessedIn, no_result-final, result-final, seq-other, seq-written, written-from}
use Rattle.kp_pipeline.proofs.{Agreement.IsRight, Invariant.Inv, Invariant.Met, Invariant.RightAt, Truths.MadeRight, Truths.RightAbove, Truths.computes}
use Rattle.kp_pipeline.proofs.{NextState.guessed-in, NextState.visible-kept, NextState.visible-other, NextState.visible-written, Counts.count-window}
use Rattle.kp_pipeline.proofs.Settling.{leaving, truth-at}

-- the final result is that after the write stage
result-at_write_stage : (m : Machine) (acc : Accepted m) (s : ℕ → ℕ → ℕ) (q : ℕ → ℕ) (t : ℕ) → m.has_result t ≡ true
    → (o : Option ℕ) → (before_stage m s q (suc (m.write_stage t))).results t ≡ o → (before_stage m s q m.stages).results t ≡ o
result-at_write_stage m acc s q t h (Some v) e = result-final m acc s q t (suc (m.write_stage t)) v (acc.writes t h) e
result-at_write_stage m acc s q t h None e = no_result-final m acc s q t (suc (m.write_stage t)) h (let x : m.write_stage t < suc (m.write_stage t) = omega arith in x) (acc.writes t h) e

module _ (m : Machine) (acc : Accepted m) (s given : ℕ → ℕ → ℕ) (st : PipelineState) (inputs : Inputs) (count updates : ℕ → ℕ) (inv : Inv m s given st count updates) (met : Met m given st inputs count) where
  -- from the window on, all guesses are right if a stage updates
  pub window : (k : ℕ) → k < m.stages → ue m st inputs k ≡ true → m.last_guessed ≤ k + 1
      → RightAbove m s given st inputs count k × RightAt m s given st count k × MadeRight m s given st inputs count k
  window k b u w = (up, here, made)
    where
      up : RightAbove m s given st inputs count k
      up j i q = (
        (λ _. all-map (StandsBefore m j) (IsRight (seq m s given (count j))) (λ p h. let x : j < m.write_stage p.register = h.1 in let y : m.write_stage p.register ≤ m.last_guessed = h.2 in absurd (omega arith)) (st.stage j).pending (inv.between j q)),
        (λ _. all-map (GuessedIn m j) (IsRight (seq m s given (count j))) (λ p h. let x : j + 2 ≤ m.write_stage p.register = h.1 in let y : m.write_stage p.register ≤ m.last_guessed = h.2 in absurd (omega arith)) (outcome m st inputs j).guesses (guessed-in m acc st inputs j q)),
      )

      here : RightAt m s given st count k
      here _ =
          all-both (StandsBefore m k) (λ p. m.write_stage p.register ≡ suc k → IsRight (seq m s given (count k)) p) (IsRight (seq m s given (count k)))
          (λ p h g. g (let x : k < m.write_stage p.register = h.1 in let y : m.write_stage p.register ≤ m.last_guessed = h.2 in omega arith)) (st.stage k).pending (inv.between k b) (leaving m acc s given st inputs count updates inv met k b u up)

      made : MadeRight m s given st inputs count k
      made _ = all-map (GuessedIn m k) (IsRight (seq m s given (count k))) (λ p h. let x : k + 2 ≤ m.write_stage p.register = h.1 in let y : m.write_stage p.register ≤ m.last_guessed = h.2 in absurd (omega arith)) (outcome m st inputs k).guesses (guessed-in m acc st inputs k b)

  -- A target without a result stays.
  pub fixed-kept : (t a : ℕ) → m.has_result t ≡ false → next_visible m st inputs t a ≡ s t a
  fixed-kept t a h = visible-other m st inputs t a (ap (λ (x : Bool). x && (intends m (st.stage (m.write_stage t)).instruction t a)) h) ∙ inv.fixed t a h

  -- part (e) after the cycle
  pub visible-right-kept : (t a : ℕ) → m.has_result t ≡ true
      → next_visible m st inputs t a ≡ seq m s given (next_count m st inputs count (m.write_stage t)) t a
  visible-right-kept t a h =
      ⊎_elim moved
      (λ u. visible-kept m st inputs t a u ∙ inv.visible t a h ∙ ap (λ (n : ℕ). seq m s given n t a) (sym (count-window m acc st inputs count inv.shape (m.write_stage t) (acc.window t h) u)))
      (cases_Bool (ue m st inputs (m.write_stage t)))
    where
      moved : ue m st inputs (m.write_stage t) ≡ true
          → next_visible m st inputs t a ≡ seq m s given (next_count m st inputs count (m.write_stage t)) t a
      moved u = ⊎_elim
          (λ w. visible-written m st inputs t a u w
          ∙ ap (λ (o : Option ℕ). unwrap_or o 0) (sym (result-at_write_stage m acc (seq m s given (count (m.write_stage t))) (given (count (m.write_stage t))) t h _ (ap (λ (c : Instruction). c.results t) (sym ended))))
          ∙ sym (seq-written m s given t a (count (m.write_stage t)) (wr ∙ w)) ∙ ap (λ (n : ℕ). seq m s given n t a) (sym one))
          (λ w. visible-other m st inputs t a w ∙ inv.visible t a h ∙ sym (seq-other m s given t a (count (m.write_stage t)) (wr ∙ w)) ∙ ap (λ (n : ℕ). seq m s given n t a) (sym one))
          (cases_Bool (is_written m (st.stage (m.write_stage t)).instruction t a))
        where
          win : RightAbove m s given st inputs count (m.write_stage t) × RightAt m s given st count (m.write_stage t) × MadeRight m s given st inputs count (m.write_stage t)
          win = window (m.write_stage t) (acc.writes t h) u (acc.window t h)

          core : (st.stage (m.write_stage t)).instruction ≡ instruction_before m s given (count (m.write_stage t)) (m.write_stage t)
          core =
              inv.held (m.write_stage t) (acc.writes t h) (ue-parts m st inputs (m.write_stage t) u).0
              (λ j x y. ⊎_elim (λ (i : m.write_stage t < j). (win.0 j i y).0) (λ (i : j ≤ m.write_stage t). let w : m.write_stage t ≡ j = omega arith in subst (λ (n : ℕ). RightAt m s given st count n) w win.1) (cases_lt (m.write_stage t) j))

          ended : after_stage (st.stage (m.write_stage t)).instruction (outcome m st inputs (m.write_stage t)) ≡ instruction_before m s given (count (m.write_stage t)) (suc (m.write_stage t))
          ended =
              computes m acc s given st inputs count updates inv met (m.write_stage t) (acc.writes t h) u
              (truth-at m acc s given st inputs count updates inv met (m.write_stage t) (acc.writes t h) (let x : back m st inputs ≤ m.write_stage t = (ue-parts m st inputs (m.write_stage t) u).2 in omega arith) win.0) win.0 win.1 win.2

          wr : is_written m (instruction_before m s given (count (m.write_stage t)) m.stages) t a ≡ is_written m (st.stage (m.write_stage t)).instruction t a
          wr =
              written-from m acc (seq m s given (count (m.write_stage t))) (given (count (m.write_stage t))) t a (m.write_stage t) h (acc.knows t h) (let x : m.write_stage t < m.stages = acc.writes t h in omega arith)
              ∙ ap (λ (c : Instruction). is_written m c t a) (sym core)

          one : next_count m st inputs count (m.write_stage t) ≡ suc (count (m.write_stage t))
          one = count-one m st inputs count inv.chain (m.write_stage t) (acc.writes t h) u
