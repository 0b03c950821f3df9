use Rattle.std.proofs.Common.{◌≡◌, ℕ, zero, suc, ◌+◌, ◌≤◌, Bool, true, false, List, [], ◌∷◌, length, refl, sym, ap, ◌∙◌, arith, eq-eqb, eqb, ◌&&◌}
use Rattle.std.proofs.lemmas.Bool.{false≢true, cond-true, and_from}
use Rattle.kp_pipeline.specs.{Machine.Machine, Sequential.before_stage, Sequential.seq}
use Rattle.kp_pipeline.specs.Pipeline.{Inputs, PipelineState, cycle, next_stage, pipeline_start, start_stage, ue}
use Rattle.kp_pipeline.specs.Rows.{bit, one_if, passed, pipe, row, rows_from, state_after, taken, taken_from}
use Rattle.kp_pipeline.{specs.Accepted.Accepted, specs.Claims.Legal, proofs.Lists.bit-at, proofs.Movement.next_count}
use Rattle.kp_pipeline.proofs.{Invariant.Inv, Invariant.Met, Pending.shape-kept, Pending.shape-start, Counts.passes-kept, Settling.held-kept}
use Rattle.kp_pipeline.proofs.{Window.fixed-kept, Window.visible-right-kept, Taken.taken-skips}

-- At the start part (b) is about stage 0 alone.
start-held : (m : Machine) (s given : ℕ → ℕ → ℕ) (k : ℕ) → (start_stage k).full ≡ true
    → (start_stage k).instruction ≡ before_stage m (seq m s given 0) (given 0) k
unfolding before_stage
start-held m s given zero f = refl
start-held m s given (suc k) f = absurd (false≢true f)

-- The invariant holds at the start.
pub inv-start : (m : Machine) (s given : ℕ → ℕ → ℕ) (hints : ℕ → ℕ) → Inv m s given (pipeline_start s hints) (λ k. 0) (λ k. 0)
unfolding seq
inv-start m s given hints = record {
  shape = shape-start m s hints;
  held = λ k b f _. start-held m s given k f;
  visible = λ t a h. refl;
  fixed = λ t a h. refl;
  passes = λ k b w. refl;
}

-- It is kept by a cycle that is given the samples that its instructions take.
pub inv-kept : (m : Machine) (acc : Accepted m) (s given : ℕ → ℕ → ℕ) (st : PipelineState) (i : Inputs) (count updates : ℕ → ℕ)
    → Inv m s given st count updates → Met m given st i count
    → Inv m s given (cycle m st i) (next_count m st i count) (λ k. one_if (bit (row m st i).ue k) + updates k)
unfolding next_stage
inv-kept m acc s given st i count updates inv met = record {
  shape = shape-kept m acc st i count inv.shape;
  held = held-kept m acc s given st i count updates inv met;
  visible = visible-right-kept m acc s given st i count updates inv met;
  fixed = fixed-kept m acc s given st i count updates inv met;
  passes = λ k b w. passes-kept m acc st i count inv.shape (updates k) k b w (inv.passes k b w) ∙ ap (λ (x : Bool). one_if x + updates k) (sym (bit-at (ue m st i) m.stages k b));
}

-- from the counts on, the rows are those of the cycles to come
abbrev pub TakesAhead : Machine → (ℕ → ℕ → ℕ) → PipelineState → List Inputs → (ℕ → ℕ) → Type 0
TakesAhead m given st ins updates = (i x : ℕ) → updates (m.sample_stage x) ≤ i → given i x ≡ taken_from m updates ins (rows_from m st ins) i x

-- So the cycle's inputs are what the instructions take that leave in it: the count of a sample's stage is its updates.
pub takes_ahead-met : (m : Machine) (acc : Accepted m) (s given : ℕ → ℕ → ℕ) (st : PipelineState) (j : Inputs) (js : List Inputs) (count updates : ℕ → ℕ)
    → Inv m s given st count updates → TakesAhead m given st (j ∷ js) updates → Met m given st j count
takes_ahead-met m acc s given st j js count updates inv ahead x b u =
    let e : count (m.sample_stage x) ≡ updates (m.sample_stage x) = inv.passes (m.sample_stage x) b (acc.late_samples x b) in
    ahead (count (m.sample_stage x)) x (omega arith)
    ∙ cond-true (bit (row m st j).ue (m.sample_stage x) && eqb (updates (m.sample_stage x)) (count (m.sample_stage x))) _ _ (and_from (bit (row m st j).ue (m.sample_stage x)) _ (bit-at (ue m st j) m.stages (m.sample_stage x) b ∙ u) (eq-eqb (updates (m.sample_stage x)) (count (m.sample_stage x)) (sym e)))

-- And this stays so for the cycles to come.
pub takes_ahead-kept : (m : Machine) (given : ℕ → ℕ → ℕ) (st : PipelineState) (j : Inputs) (js : List Inputs) (updates : ℕ → ℕ)
    → TakesAhead m given st (j ∷ js) updates
    → TakesAhead m given (cycle m st j) js (λ k. one_if (bit (row m st j).ue k) + updates k)
takes_ahead-kept m given st j js updates ahead i x b = ahead i x (omega arith) ∙ taken-skips m updates j js (row m st j) (rows_from m (cycle m st j) js) i x b

-- what the invariant says of the state itself
legal-here : (m : Machine) (acc : Accepted m) (s given : ℕ → ℕ → ℕ) (st : PipelineState) (count updates : ℕ → ℕ)
    → Inv m s given st count updates
    → (t a : ℕ)
    → (m.has_result t ≡ true → st.visible t a ≡ seq m s given (0 + updates (m.write_stage t)) t a) × (m.has_result t ≡ false → st.visible t a ≡ s t a)
legal-here m acc s given st count updates inv t a = (
  (λ h.
      let e = inv.passes (m.write_stage t) (acc.writes t h) (acc.window t h) in
      let q : count (m.write_stage t) ≡ 0 + updates (m.write_stage t) = omega arith in
      inv.visible t a h ∙ ap (λ (n : ℕ). seq m s given n t a) q),
  (λ h. inv.fixed t a h),
)

-- from any state at which the invariant holds
pub legal-from : (m : Machine) (acc : Accepted m) (s given : ℕ → ℕ → ℕ) (ins : List Inputs) (st : PipelineState) (count updates : ℕ → ℕ)
    → Inv m s given st count updates → TakesAhead m given st ins updates
    → (T : ℕ) → T ≤ length (rows_from m st ins) → (t a : ℕ)
    → (m.has_result t ≡ true → (state_after m st ins T).visible t a ≡ seq m s given (passed (rows_from m st ins) (m.write_stage t) T + updates (m.write_stage t)) t a) × (m.has_result t ≡ false → (state_after m st ins T).visible t a ≡ s t a)
legal-from m acc s given [] st count updates inv ahead zero b t a = legal-here m acc s given st count updates inv t a
legal-from m acc s given [] st count updates inv ahead (suc T) b t a = absurd (omega arith)
legal-from m acc s given (i ∷ is) st count updates inv ahead zero b t a = legal-here m acc s given st count updates inv t a
legal-from m acc s given (i ∷ is) st count updates inv ahead (suc T) b t a =
    let r = legal-from m acc s given is (cycle m st i) (next_count m st i count) (λ k. one_if (bit (row m st i).ue k) + updates k)
    (inv-kept m acc s given st i count updates inv (takes_ahead-met m acc s given st i is count updates inv ahead)) (takes_ahead-kept m given st i is updates ahead) T (omega arith) t a in (
      (λ h.
          let q : passed (rows_from m (cycle m st i) is) (m.write_stage t) T + (one_if (bit (row m st i).ue (m.write_stage t)) + updates (m.write_stage t)) ≡ (one_if (bit (row m st i).ue (m.write_stage t)) + passed (rows_from m (cycle m st i) is) (m.write_stage t) T) + updates (m.write_stage t) = omega arith in
          r.0 h ∙ ap (λ (n : ℕ). seq m s given n t a) q),
      r.1,
    )

-- The law.
pub legal : (m : Machine) (s : ℕ → ℕ → ℕ) (hints : ℕ → ℕ) (ins : List Inputs) → Accepted m → Legal m s ins (pipe m s hints ins)
legal m s hints ins acc T b t a =
    let given : ℕ → ℕ → ℕ = taken m ins (rows_from m (pipeline_start s hints) ins) in
    let r = legal-from m acc s given ins (pipeline_start s hints) (λ k. 0) (λ k. 0) (inv-start m s given hints) (λ i x b. refl) T b t a in (
      (λ h. let q : passed (rows_from m (pipeline_start s hints) ins) (m.write_stage t) T + 0 ≡ passed (rows_from m (pipeline_start s hints) ins) (m.write_stage t) T = omega arith in
          r.0 h ∙ ap (λ (n : ℕ). seq m s given n t a) q),
      r.1,
    )
