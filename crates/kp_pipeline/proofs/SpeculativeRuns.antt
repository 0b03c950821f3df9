use Rattle.std.proofs.Common.{◌≡◌, ℕ, zero, suc, ◌<◌, Bool, Option, Some, unwrap_or, refl, sym, ap, ◌∙◌, arith}
use Rattle.kp_pipeline.specs.{Sequential.before_stage, Sequential.instruction_before, Sequential.seq, Accepted.Accepted, Accepted.Fits}
use Rattle.kp_pipeline.specs.{Examples.no_hints, Examples.quiet, Examples.quiets, Examples.zeros, Timeline.start_hold}
use Rattle.kp_pipeline.specs.SpeculativeTimeline.{blocked, hints_after, moves_on, next_hold, ready_above, ready_from, setting_stage, waits}
use Rattle.kp_pipeline.specs.{RightPath.MakesRightGuesses, RightPath.NoWrongGuess, SpeculativeExamples.right3, SpeculativeExamples.right3_body}
use Rattle.kp_pipeline.proofs.WorkedRuns.{no_sample-accepted}

-- THE WORKED RUNS, by computation.
right3-fits : (k : ℕ) (p : ℕ → ℕ) → k < 3 → Fits right3 k (right3_body k p)
right3-fits zero p b = (refl, omega arith, omega arith, (λ v. ((λ t p h k. (refl, refl)), (λ t h k. absurd (omega arith)))))
right3-fits (suc zero) p b = ((λ t p h k. (refl, refl)), (λ t h k. absurd (omega arith)))
right3-fits (suc (suc k)) p b = ((λ t p h k. (refl, refl)), (λ t h k. absurd (omega arith)))

pub right3-accepted : Accepted right3
right3-accepted = record {
  but_for_window = no_sample-accepted right3 (omega arith) right3-fits (λ k q r p. refl) (λ x. omega arith) (λ t. omega arith) (λ t. omega arith) (λ x. omega arith);
  window = λ t h. omega arith;
}

-- Its guesses are right: a guess is made in each cycle but the first, and its hint has counted as far as the register will.
right3-state : (given : ℕ → ℕ → ℕ) (n : ℕ) → seq right3 zeros given n 0 0 ≡ n
unfolding seq before_stage
right3-state given zero = refl
right3-state given (suc n) = let e = right3-state given n in omega (arith, e)

right3-makes : (ready : ℕ → ℕ → Bool) (h : ℕ → ℕ) (s : ℕ → ℕ → ℕ) (p : ℕ → ℕ) (k : ℕ) → (k ≡ 0 → h 0 ≡ s 0 0) → MakesRightGuesses ready h s (right3_body k p)
right3-makes ready h s p zero e = ((λ _. e refl), tt)
right3-makes ready h s p (suc zero) e = tt
right3-makes ready h s p (suc (suc k)) e = tt

right3-cycle : (given : ℕ → ℕ → ℕ) (hints : ℕ → ℕ) (hold : ℕ → Option ℕ) (T : ℕ) → hints 0 ≡ T → hold 0 ≡ Some T → (k n : ℕ) → k < 3 → hold k ≡ Some n
    → MakesRightGuesses (ready_above right3 zeros given hold quiet k).ready hints (seq right3 zeros given n) (right3_body k (instruction_before right3 zeros given n k).pipes)
right3-cycle given hints hold T e f k n b g =
    right3-makes (ready_above right3 zeros given hold quiet k).ready hints (seq right3 zeros given n) (instruction_before right3 zeros given n k).pipes k
    (λ z. let same : T ≡ n = ap (λ (o : Option ℕ). unwrap_or o 0) (sym f ∙ sym (ap hold z) ∙ g) in e ∙ same ∙ sym (right3-state given n))

pub right3-none : (given : ℕ → ℕ → ℕ) → NoWrongGuess right3 zeros given no_hints start_hold (quiets 4)
unfolding before_stage seq next_hold moves_on blocked waits ready_above ready_from setting_stage hints_after
right3-none given =
    let f : ℕ → Option ℕ = next_hold right3 zeros given start_hold quiet in
    let g : ℕ → Option ℕ = next_hold right3 zeros given f quiet in
    let h : ℕ → Option ℕ = next_hold right3 zeros given g quiet in
    let a : ℕ → ℕ = hints_after right3 zeros given start_hold quiet no_hints in
    let b : ℕ → ℕ = hints_after right3 zeros given f quiet a in
    let c : ℕ → ℕ = hints_after right3 zeros given g quiet b in (
      right3-cycle given no_hints start_hold 0 refl refl,
      (right3-cycle given a f 1 refl refl, (right3-cycle given b g 2 refl refl, (right3-cycle given c h 3 refl refl, tt))),
    )

pub ruleset accepted = (right3-accepted)
