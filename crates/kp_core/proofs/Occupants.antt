-- What the stages of a pipelined machine hold: in a full stage from which upward no pending guess is wrong, the instruction of the sequential machine that
-- has the stage's number.
use Rattle.std.proofs.Common.{◌≡◌, ◌∙◌, ℕ, zero, suc, ◌+◌, ◌<◌, ◌≤◌, zero-add, Bool, true, false, not, ◌&&◌, leb, List, [], ◌∷◌, length, refl, sym, ap, subst, arith}
use Rattle.std.proofs.lemmas.Bool.{and_parts}
use Rattle.std.specs.List.{AllByRecursion}
use Rattle.kp_pipeline.specs.{Machine.Machine, Accepted.Accepted, Sequential.PendingGuess, Sequential.instruction_before, Sequential.seq}
use Rattle.kp_pipeline.specs.{Pipeline.Inputs, Pipeline.PipelineState, Pipeline.back, Pipeline.cycle, Pipeline.pipeline_start, Pipeline.stall, Pipeline.ue, Claims.StandsBefore}
use Rattle.kp_pipeline.specs.Rows.{Row, bit, one_if, passed, row, rows_from, pipe, taken, counts, counts_from, count_after, state_after}
use Rattle.kp_pipeline.{specs.RightPath.IsRightIn, specs.RightPath.HasRightGuesses, proofs.Invariant.Inv, proofs.Movement.next_count, proofs.Lists.bit-bits}
use Rattle.kp_pipeline.proofs.Counts.{AgreeBelow, counts-row}
use Rattle.kp_pipeline.proofs.Legality.{TakesAhead, inv-kept, inv-start, takes_ahead-kept, takes_ahead-met}

module _ (m : Machine) (acc : Accepted m) (s given : ℕ → ℕ → ℕ) where
  -- from stage k up the pending guesses of a state with these counts are right
  abbrev pub RightFrom : PipelineState → (ℕ → ℕ) → ℕ → Type 0
  RightFrom st c k = (j : ℕ) → k ≤ j → j < m.stages → HasRightGuesses m s given (record { state = st; count = c }) j

  held_here : (st : PipelineState) (c d updates : ℕ → ℕ) (k : ℕ) → Inv m s given st d updates → AgreeBelow m.stages c d → k < m.stages → (st.stage k).full ≡ true
      → RightFrom st c k → (st.stage k).instruction ≡ instruction_before m s given (c k) k
  held_here st c d updates k inv agree b f right =
      inv.held k b f (λ j a l g. subst (λ (n : ℕ). AllByRecursion (IsRightIn (seq m s given n)) (st.stage j).pending) (agree j l) (right j a l g))
      ∙ ap (λ (n : ℕ). instruction_before m s given n k) (sym (agree k b))

  -- after stage W - 1 no guess is pending
  none_pending : (n j : ℕ) (ps : List PendingGuess) → m.last_guessed ≤ j → AllByRecursion (StandsBefore m j) ps → AllByRecursion (IsRightIn (seq m s given n)) ps
  none_pending n j [] l h = tt
  none_pending n j (p ∷ ps) l h = let a = h.0 in absurd (omega (arith, l, a.1, a.2))

  right_late : (st : PipelineState) (c d updates : ℕ → ℕ) (k : ℕ) → Inv m s given st d updates → m.last_guessed ≤ k → RightFrom st c k
  right_late st c d updates k inv l j a b f = none_pending (c j) j (st.stage j).pending (omega (arith, l, a)) (inv.shape.between j b)

  -- whatever the invariant says of a state with counts, it says of each state of a run
  inv_along : (P : PipelineState → (ℕ → ℕ) → Type 0)
      → ((st : PipelineState) (c d updates : ℕ → ℕ) → Inv m s given st d updates → AgreeBelow m.stages c d → P st c)
      → (ins : List Inputs) (st : PipelineState) (c d updates : ℕ → ℕ) → Inv m s given st d updates → TakesAhead m given st ins updates → AgreeBelow m.stages c d
      → (T : ℕ) → T ≤ length ins → P (state_after m st ins T) (counts_from m.stages c (rows_from m st ins) T)
  inv_along P here [] st c d updates inv ahead agree zero b = here st c d updates inv agree
  inv_along P here [] st c d updates inv ahead agree (suc T) b = absurd (omega (arith, b))
  inv_along P here (i ∷ ins) st c d updates inv ahead agree zero b = here st c d updates inv agree
  inv_along P here (i ∷ ins) st c d updates inv ahead agree (suc T) b =
      inv_along P here ins (cycle m st i) (count_after m.stages (row m st i) c) (next_count m st i d) (λ k. one_if (bit (row m st i).ue k) + updates k)
      (inv-kept m acc s given st i d updates inv (takes_ahead-met m acc s given st i ins d updates inv ahead)) (takes_ahead-kept m given st i ins updates ahead)
      (counts-row m st i c d agree) T (omega (arith, b))

-- a stage that updates in a cycle is full then
update_full : (m : Machine) (st : PipelineState) (i : Inputs) (k : ℕ) → ue m st i k ≡ true → (st.stage k).full ≡ true
unfolding ue
update_full m st i k e = (and_parts (st.stage k).full (not (stall m st i k) && leb (back m st i) k) e).0

updated : (m : Machine) (st : PipelineState) (i : Inputs) (k : ℕ) → k < m.stages → bit (row m st i).ue k ≡ true → ue m st i k ≡ true
updated m st i k b e = ap (ue m st i) (sym (zero-add k)) ∙ sym (bit-bits (ue m st i) m.stages 0 k b) ∙ e

pub none_passed : (rows : List Row) (k : ℕ) → passed rows k 0 ≡ 0
none_passed [] k = refl
none_passed (r ∷ rows) k = refl

one_bit : (b : Bool) → one_if b ≡ 1 → b ≡ true
one_bit true e = refl
one_bit false e = absurd (omega (arith, e))

pub full_where_updated : (m : Machine) (ins : List Inputs) (st : PipelineState) (T k : ℕ) → k < m.stages → T < length ins
    → passed (rows_from m st ins) k (suc T) ≡ suc (passed (rows_from m st ins) k T) → ((state_after m st ins T).stage k).full ≡ true
full_where_updated m [] st T k b l e = absurd (omega (arith, l))
full_where_updated m (i ∷ ins) st zero k b l e =
    update_full m st i k (updated m st i k b (one_bit (bit (row m st i).ue k) (let z = none_passed (rows_from m (cycle m st i) ins) k in omega (arith, e, z))))
full_where_updated m (i ∷ ins) st (suc T) k b l e =
    full_where_updated m ins (cycle m st i) T k b (omega (arith, l)) (omega (arith, e))

-- THE RUN from a state on
module _ (m : Machine) (acc : Accepted m) (s : ℕ → ℕ → ℕ) (hints : ℕ → ℕ) (ins : List Inputs) where
  abbrev given : ℕ → ℕ → ℕ
  given = taken m ins (pipe m s hints ins).rows

  along : (P : PipelineState → (ℕ → ℕ) → Type 0)
      → ((st : PipelineState) (c d updates : ℕ → ℕ) → Inv m s given st d updates → AgreeBelow m.stages c d → P st c)
      → (T : ℕ) → T ≤ length ins → P (state_after m (pipeline_start s hints) ins T) (counts m.stages (pipe m s hints ins).rows T)
  along P here T b =
      inv_along m acc s given P here ins (pipeline_start s hints) (λ k. 0) (λ k. 0) (λ k. 0) (inv-start m s given hints) (λ i x l. refl) (λ k l. refl) T b

  pub held_instruction : (T k : ℕ) → T ≤ length ins → k < m.stages → ((state_after m (pipeline_start s hints) ins T).stage k).full ≡ true
      → RightFrom m acc s given (state_after m (pipeline_start s hints) ins T) (counts m.stages (pipe m s hints ins).rows T) k
      → ((state_after m (pipeline_start s hints) ins T).stage k).instruction ≡ instruction_before m s given (counts m.stages (pipe m s hints ins).rows T k) k
  held_instruction T k b l =
      along (λ st c. (st.stage k).full ≡ true → RightFrom m acc s given st c k → (st.stage k).instruction ≡ instruction_before m s given (c k) k)
      (λ st c d updates inv agree f right. held_here m acc s given st c d updates k inv agree l f right) T b

  pub held_late : (T k : ℕ) → T ≤ length ins → k < m.stages → m.last_guessed ≤ k → ((state_after m (pipeline_start s hints) ins T).stage k).full ≡ true
      → ((state_after m (pipeline_start s hints) ins T).stage k).instruction ≡ instruction_before m s given (counts m.stages (pipe m s hints ins).rows T k) k
  held_late T k b l late =
      along (λ st c. (st.stage k).full ≡ true → (st.stage k).instruction ≡ instruction_before m s given (c k) k)
      (λ st c d updates inv agree f. held_here m acc s given st c d updates k inv agree l f (right_late m acc s given st c d updates k inv late)) T b
