use Rattle.std.proofs.Common.{◌≡◌, ℕ, zero, suc, ◌+◌, ◌<◌, Bool, true, false, cond, not, ◌&&◌, eqb, eq-eqb, filter, List, [], ◌∷◌, ◌++◌, Option, Some, None, refl, sym, ap, ap₂, ◌∙◌, ⊎_elim, arith}
use Rattle.std.proofs.lemmas.Bool.{cases_Bool, cond-true, cond-false, and_from, and_right, ne_eqb}
use Rattle.kp_pipeline.specs.{Machine.Machine, Sequential.PendingGuess, Sequential.instruction_before, Sequential.seq}
use Rattle.kp_pipeline.specs.Pipeline.{Inputs, PipelineState, above, cycle, next_stage, outcome, pipeline_start, start_stage, ue}
use Rattle.kp_pipeline.specs.{Rows.Row, Rows.bit, Rows.one_if, Rows.pipe, Rows.row, Rows.rows_from, Accepted.Accepted, Timeline.no_samples, Timeline.start_hold}
use Rattle.kp_pipeline.specs.SpeculativeTimeline.{IsWithoutGuess, is_held, moves_on, next_hold, next_taken, ready_above, taken_now, timeline_rows_taking}
use Rattle.kp_pipeline.proofs.{Lists.bit-at, Cycle.ue-parts, Movement.next_count, Sequential.run-no_guess, Invariant.Inv, Invariant.Met}
use Rattle.kp_pipeline.proofs.{NextState.next-pending, NextState.next-pending-kept, Legality.inv-kept, Legality.inv-start, Reading.no_guess-right}
use Rattle.kp_pipeline.proofs.{Seeing.RightHere, Seeing.goes, Seeing.hold-kept, Seeing.row-here, Runs.start-tie}

-- SAMPLES WITHOUT LOOKAHEAD. The values taken up to now fix all that matters: `given` agrees with them if it has the
-- same value for each instruction that left the sample's stage.
abbrev pub AgreesWith : Machine → (ℕ → ℕ → ℕ) → (ℕ → ℕ → ℕ) → (ℕ → ℕ) → Type 0
AgreesWith m given took updates = (j x : ℕ) → m.sample_stage x < m.stages → j < updates (m.sample_stage x) → given j x ≡ took j x

-- The invariant holds for whatever agrees with it.
abbrev pub HoldsFor : Machine → (ℕ → ℕ → ℕ) → (ℕ → ℕ → ℕ) → PipelineState → (ℕ → ℕ) → (ℕ → ℕ) → Type 0
HoldsFor m s took st count updates = (given : ℕ → ℕ → ℕ) → AgreesWith m given took updates → Inv m s given st count updates

module _ (m : Machine) (acc : Accepted m) (plain : IsWithoutGuess m) (s took : ℕ → ℕ → ℕ) (st : PipelineState) (i : Inputs) (count updates : ℕ → ℕ) (every : HoldsFor m s took st count updates)
    (hold : ℕ → Option ℕ) (tie : (k : ℕ) → k < m.stages → hold k ≡ cond (st.stage k).full (Some (count k)) None) (bare : (k : ℕ) → k < m.stages → (st.stage k).pending ≡ []) where
  -- in a sample's stage the count is the number of updates
  counted : (x : ℕ) → m.sample_stage x < m.stages → count (m.sample_stage x) ≡ updates (m.sample_stage x)
  counted x b = (every took (λ j y c e. refl)).passes (m.sample_stage x) b (acc.late_samples x b)

  -- one that left it isn't held there
  not_held : (j x : ℕ) → m.sample_stage x < m.stages → j < updates (m.sample_stage x) → is_held (hold (m.sample_stage x)) j ≡ false
  not_held j x b l =
      ap (λ (o : Option ℕ). is_held o j) (tie (m.sample_stage x) b)
      ∙ ⊎_elim
      (λ f. ap (λ (y : Bool). is_held (cond y (Some (count (m.sample_stage x))) None) j) f ∙ ne_eqb (count (m.sample_stage x)) j (λ e. let c = counted x b in absurd (omega arith)))
      (λ f. ap (λ (y : Bool). is_held (cond y (Some (count (m.sample_stage x))) None) j) f) (cases_Bool (st.stage (m.sample_stage x)).full)

  is_held-here : (x : ℕ) → m.sample_stage x < m.stages → (st.stage (m.sample_stage x)).full ≡ true → is_held (hold (m.sample_stage x)) (count (m.sample_stage x)) ≡ true
  is_held-here x b f =
      ap (λ (o : Option ℕ). is_held o (count (m.sample_stage x))) (tie (m.sample_stage x) b)
      ∙ ap (λ (y : Bool). is_held (cond y (Some (count (m.sample_stage x))) None) (count (m.sample_stage x))) f ∙ eq-eqb (count (m.sample_stage x)) (count (m.sample_stage x)) refl

  -- What is known now agrees, and the instructions that leave are given the present values.
  agrees-now : AgreesWith m (taken_now m took hold i) took updates
  agrees-now j x b l = cond-false (is_held (hold (m.sample_stage x)) j) _ _ (not_held j x b l)

  pub inv-now : Inv m s (taken_now m took hold i) st count updates
  inv-now = every (taken_now m took hold i) agrees-now

  pub met-now : Met m (taken_now m took hold i) st i count
  met-now x b u = cond-true (is_held (hold (m.sample_stage x)) (count (m.sample_stage x))) _ _ (is_held-here x b (ue-parts m st i (m.sample_stage x) u).0)

  no_guess-made : (k : ℕ) → k < m.stages → (outcome m st i k).guesses ≡ []
  unfolding outcome
  no_guess-made k b = run-no_guess (above m st i k).truth st.hints (m.body k i.samples (st.stage k).instruction.pipes) (plain k i.samples (st.stage k).instruction.pipes b)

  pub bare-kept : (k : ℕ) → k < m.stages → (next_stage m st i k).pending ≡ []
  unfolding next_stage
  bare-kept zero b = refl
  bare-kept (suc k) b =
      ⊎_elim (λ u. next-pending m st i k u ∙ ap₂ (λ (x y : List PendingGuess). filter (λ p. not (eqb (m.write_stage p.register) (suc k))) (x ++ y)) (no_guess-made k (omega arith)) (bare k (omega arith)))
      (λ u. next-pending-kept m st i k u ∙ bare (suc k) b) (cases_Bool (ue m st i k))

  pub right-now : (k : ℕ) → k < m.stages → RightHere m acc s (taken_now m took hold i) st i count updates inv-now met-now hold tie k
  right-now k b = (
    (λ f. rw (bare k b) tt),
    (λ f. no_guess-right (ready_above m s (taken_now m took hold i) hold i k).ready st.hints (seq m s (taken_now m took hold i) (count k)) (m.body k i.samples (instruction_before m s (taken_now m took hold i) (count k) k).pipes) (plain k i.samples (instruction_before m s (taken_now m took hold i) (count k) k).pipes b)),
  )

  -- The same after the cycle.
  pub every-next : HoldsFor m s (next_taken m s took hold i) (cycle m st i) (next_count m st i count) (λ k. one_if (bit (row m st i).ue k) + updates k)
  every-next given same = inv-kept m acc s given st i count updates (every given agrees) met
    where
      agrees : AgreesWith m given took updates
      agrees j x b l =
          same j x b (omega arith)
          ∙ cond-false (moves_on m s (taken_now m took hold i) hold i (m.sample_stage x) && is_held (hold (m.sample_stage x)) j) _ _
          (and_right (moves_on m s (taken_now m took hold i) hold i (m.sample_stage x)) _ (not_held j x b l))

      met : Met m given st i count
      met x b u =
          let c = counted x b in
          let one : one_if (bit (row m st i).ue (m.sample_stage x)) ≡ 1 = ap one_if (bit-at (ue m st i) m.stages (m.sample_stage x) b ∙ u) in
          same (count (m.sample_stage x)) x b (omega arith)
          ∙ cond-true (moves_on m s (taken_now m took hold i) hold i (m.sample_stage x) && is_held (hold (m.sample_stage x)) (count (m.sample_stage x))) _ _
          (and_from (moves_on m s (taken_now m took hold i) hold i (m.sample_stage x)) _
          (sym (goes m acc s (taken_now m took hold i) st i count updates inv-now met-now hold tie right-now (m.sample_stage x) b) ∙ u)
          (is_held-here x b (ue-parts m st i (m.sample_stage x) u).0))

rows-along : (m : Machine) (acc : Accepted m) (plain : IsWithoutGuess m) (s : ℕ → ℕ → ℕ) (ins : List Inputs) (took : ℕ → ℕ → ℕ) (st : PipelineState) (count updates : ℕ → ℕ)
    → HoldsFor m s took st count updates
    → (hold : ℕ → Option ℕ) → ((k : ℕ) → k < m.stages → hold k ≡ cond (st.stage k).full (Some (count k)) None)
    → ((k : ℕ) → k < m.stages → (st.stage k).pending ≡ [])
    → rows_from m st ins ≡ timeline_rows_taking m s took hold ins
rows-along m acc plain s [] took st count updates every hold tie bare = refl
rows-along m acc plain s (i ∷ is) took st count updates every hold tie bare =
    let given : ℕ → ℕ → ℕ = taken_now m took hold i in
    let inv : Inv m s (taken_now m took hold i) st count updates = inv-now m acc plain s took st i count updates every hold tie bare in
    let met : Met m (taken_now m took hold i) st i count = met-now m acc plain s took st i count updates every hold tie bare in
    let right : (k : ℕ) → k < m.stages → RightHere m acc s (taken_now m took hold i) st i count updates inv met hold tie k = right-now m acc plain s took st i count updates every hold tie bare in
    ap₂ (λ (x : Row) (y : List Row). x ∷ y) (row-here m acc s given st i count updates inv met hold tie right)
    (rows-along m acc plain s is (next_taken m s took hold i) (cycle m st i) (next_count m st i count) (λ k. one_if (bit (row m st i).ue k) + updates k)
    (every-next m acc plain s took st i count updates every hold tie bare)
    (next_hold m s given hold i) (hold-kept m acc s given st i count updates inv met hold tie right) (bare-kept m acc plain s took st i count updates every hold tie bare))

-- The law.
pub rows-taking : (m : Machine) (s : ℕ → ℕ → ℕ) (hints : ℕ → ℕ) (ins : List Inputs) → Accepted m → IsWithoutGuess m
    → (pipe m s hints ins).rows ≡ timeline_rows_taking m s no_samples start_hold ins
rows-taking m s hints ins acc plain =
    rows-along m acc plain s ins no_samples (pipeline_start s hints) (λ k. 0) (λ k. 0) (λ given _. inv-start m s given hints) start_hold (λ k b. start-tie k) (λ k b. start-bare k)
  where
    start-bare : (k : ℕ) → (start_stage k).pending ≡ []
    start-bare zero = refl
    start-bare (suc k) = refl
