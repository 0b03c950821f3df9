use Rattle.std.specs.Prelude.{ℕ, zero, suc, ◌+◌, cond, eqb, List, [], ◌∷◌}
use Rattle.kp_pipeline.specs.{Machine.Tree, Machine.Done, Machine.Ask, Machine.Guess, Machine.Machine, Pipeline.Inputs, Rows.Row}
use Rattle.kp_pipeline.specs.Examples.{digit, ends, idle, late3, nothing, only, row3, sampled}

-- SMALL MACHINES with their runs worked out by hand, as in kp_pipeline.

abbrev pub row5 : (a b c d e f g h i j : ℕ) → Row
row5 a b c d e f g h i j = record {
  full = digit a ∷ digit b ∷ digit c ∷ digit d ∷ digit e ∷ [];
  ue = digit f ∷ digit g ∷ digit h ∷ digit i ∷ digit j ∷ [];
  back = 0;
}

-- SEES5: stage 1 reads X only if a sample is 1; X is set in stage 4. In cycle 2 the second instruction waits for the
-- first one. In cycle 3 the sample is 0, so it moves on, though X isn't available.
abbrev pub sees5_body : ℕ → (ℕ → ℕ) → (ℕ → ℕ) → Tree
sees5_body (suc zero) q p = cond (eqb (q 0) 1) (Ask 0 0 (λ x. idle)) idle
sees5_body (suc (suc (suc (suc k)))) q p = ends nothing (only 0 7)
sees5_body _ q p = idle

abbrev pub sees5 : Machine
sees5 = record late3 { stages = 5; body = sees5_body; sample_stage = λ x. 1; write_stage = λ t. 4 }

abbrev pub sees5_inputs : List Inputs
sees5_inputs = sampled 0 ∷ sampled 0 ∷ sampled 1 ∷ sampled 0 ∷ sampled 1 ∷ []

abbrev pub sees5_rows : List Row
sees5_rows =
    row5 1 0 0 0 0 1 0 0 0 0
    ∷ row5 1 1 0 0 0 1 1 0 0 0
    ∷ row5 1 1 1 0 0 0 0 1 0 0
    ∷ row5 1 1 0 1 0 1 1 0 1 0
    ∷ row5 1 1 1 0 1 0 0 1 0 1
    ∷ []

-- RIGHT3: as HINT3 of kp_pipeline, but the hint is aimed correctly, so no stage ever waits. Without the guess every
-- other cycle is lost, as in LATE3.
abbrev pub right3_body : ℕ → (ℕ → ℕ) → Tree
right3_body zero p = Guess 0 (λ h. h 0) (λ x. Done (only 0 x) nothing (λ h. only 0 (x + 1)))
right3_body (suc zero) p = idle
right3_body (suc (suc k)) p = ends nothing (only 0 (p 0 + 1))

abbrev pub right3 : Machine
right3 = record late3 { body = λ k q. right3_body k; last_guessed = 2 }

abbrev pub right3_rows : List Row
right3_rows =
    row3 1 0 0 1 0 0 0
    ∷ row3 1 1 0 1 1 0 0
    ∷ row3 1 1 1 1 1 1 0
    ∷ row3 1 1 1 1 1 1 0
    ∷ []
