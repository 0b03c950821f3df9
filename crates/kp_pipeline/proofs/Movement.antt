use Rattle.std.proofs.Common.{refl, ◌≡◌, ℕ, zero, suc, ◌+◌, ◌-◌, ◌<◌, ◌≤◌, true, false, ◌||◌, leb, sym, ap, ◌∙◌, ◌⊎◌, ⊎_elim, arith, leb-true, le-leb, cond}
use Rattle.std.proofs.lemmas.Bool.{and_parts, and_from, or_parts, cases_Bool, cases_lt, both_ways, or_left, or_right, cond-true, cond-false, lt-leb, or_cases, and_left, and_right, or_from, false_from_ne_true}
use Rattle.kp_pipeline.specs.Machine.{Machine}
use Rattle.kp_pipeline.specs.Pipeline.{Inputs, PipelineState, above, back, next_stage, outcome, stall, ue}
use Rattle.kp_pipeline.{specs.Rows.count_moved, specs.Rows.one_if, proofs.Cycle.stall-above, proofs.Cycle.stall-is, proofs.Cycle.ue-from, proofs.Cycle.ue-parts}

-- The counts after a cycle as the proofs carry them: `count_after` of the row, with the tests themselves for their bits.
unfoldable pub next_count : Machine → PipelineState → Inputs → (ℕ → ℕ) → ℕ → ℕ
next_count m st inputs count k = cond (leb (back m st inputs) k) (cond (ue m st inputs k) (count_moved count k) (count k)) (count (back m st inputs - 1))

module _ (m : Machine) (st : PipelineState) (inputs : Inputs) where
  -- A full stage that isn't stalled has no hazard, no stall from outside and none from above.
  pub no_stall-parts : (k : ℕ) → (st.stage k).full ≡ true → stall m st inputs k ≡ false
      → ((outcome m st inputs k).hazard ≡ false) × (inputs.ext k ≡ false) × ((above m st inputs k).stall ≡ false)
  no_stall-parts k f s =
      let e : ((outcome m st inputs k).hazard || (inputs.ext k || (above m st inputs k).stall)) ≡ false = (rw f at (sym (stall-is m st inputs k) ∙ s)) in
      let p = or_parts (outcome m st inputs k).hazard (inputs.ext k || (above m st inputs k).stall) e in
      let q = or_parts (inputs.ext k) (above m st inputs k).stall p.1 in
      (p.0, q.0, q.1)

  -- what moves finds the stage above calm
  pub no_stall-above : (k : ℕ) → suc k < m.stages → ue m st inputs k ≡ true → stall m st inputs (suc k) ≡ false
  no_stall-above k h u =
      let p = ue-parts m st inputs k u in
      sym (stall-above m st inputs k h) ∙ (no_stall-parts k p.0 p.1).2

  -- An instruction that moves on is followed by the one in front: no instruction is overwritten.
  pub moves-above : (k : ℕ) → suc k < m.stages → ue m st inputs k ≡ true → (st.stage (suc k)).full ≡ true
      → ue m st inputs (suc k) ≡ true
  moves-above k h u f =
      let p = ue-parts m st inputs k u in
      let b : back m st inputs ≤ k = p.2 in
      ue-from m st inputs (suc k) f (no_stall-above k h u) (omega arith)

  -- A stalled stage takes nothing over.
  pub kept-below : (k : ℕ) → suc k < m.stages → stall m st inputs (suc k) ≡ true → ue m st inputs k ≡ false
  kept-below k h s = false_from_ne_true (ue m st inputs k) (λ u. both_ways (stall m st inputs (suc k)) (no_stall-above k h u) s)

  -- No update in an empty stage, nor in a stalled one.
  pub ue-empty : (k : ℕ) → (st.stage k).full ≡ false → ue m st inputs k ≡ false
  unfolding ue
  ue-empty k f = and_left (st.stage k).full _ f

  pub ue-stalled : (k : ℕ) → stall m st inputs k ≡ true → ue m st inputs k ≡ false
  ue-stalled k q = false_from_ne_true _ (λ v. both_ways _ (ue-parts m st inputs k v).1 q)

  pub stall-full : (k : ℕ) → stall m st inputs k ≡ true → (st.stage k).full ≡ true
  stall-full k s = (and_parts (st.stage k).full _ (sym (stall-is m st inputs k) ∙ s)).0

  -- the next full bit
  pub next-swept : (k : ℕ) → suc k < back m st inputs → (next_stage m st inputs (suc k)).full ≡ false
  unfolding next_stage
  next-swept k h = and_left (leb (back m st inputs) (suc k)) _ (lt-leb (back m st inputs) (suc k) h)

  pub next-moved : (k : ℕ) → ue m st inputs k ≡ true → (next_stage m st inputs (suc k)).full ≡ true
  unfolding next_stage
  next-moved k u =
      let b : back m st inputs ≤ k = (ue-parts m st inputs k u).2 in
      and_from (leb (back m st inputs) (suc k)) _ (le-leb (back m st inputs) (suc k) (omega arith)) (or_left (ue m st inputs k) (stall m st inputs (suc k)) u)

  pub next-kept : (k : ℕ) → back m st inputs ≤ suc k → stall m st inputs (suc k) ≡ true
      → (next_stage m st inputs (suc k)).full ≡ true
  unfolding next_stage
  next-kept k b s = and_from (leb (back m st inputs) (suc k)) _ (le-leb (back m st inputs) (suc k) b) (or_right (ue m st inputs k) (stall m st inputs (suc k)) s)

  -- A stalled stage that isn't squashed stays full, stage 0 too.
  pub kept-full : (j : ℕ) → back m st inputs ≤ j → stall m st inputs j ≡ true → (next_stage m st inputs j).full ≡ true
  unfolding next_stage
  kept-full zero b q = refl
  kept-full (suc j) b q = next-kept j b q

  pub next-none : (k : ℕ) → ue m st inputs k ≡ false → stall m st inputs (suc k) ≡ false
      → (next_stage m st inputs (suc k)).full ≡ false
  unfolding next_stage
  next-none k u s = and_right (leb (back m st inputs) (suc k)) _ (or_from (ue m st inputs k) (stall m st inputs (suc k)) u s)

  -- where the next full bit comes from
  pub next-from : (k : ℕ) → (next_stage m st inputs (suc k)).full ≡ true
      → (back m st inputs ≤ suc k) × ((ue m st inputs k ≡ true) ⊎ (stall m st inputs (suc k) ≡ true))
  unfolding next_stage
  next-from k f =
      let p = and_parts (leb (back m st inputs) (suc k)) (ue m st inputs k || stall m st inputs (suc k)) f in
      (leb-true (back m st inputs) (suc k) p.0, or_cases (ue m st inputs k) (stall m st inputs (suc k)) p.1)

  -- counts
  module _ (count : ℕ → ℕ) where
    -- THE COUNTS after the cycle: in a squashed stage, without an update, with one.
    pub count-swept : (k : ℕ) → k < back m st inputs → next_count m st inputs count k ≡ count (back m st inputs - 1)
    unfolding next_count
    count-swept k h = cond-false (leb (back m st inputs) k) _ _ (lt-leb (back m st inputs) k h)

    pub count-stays : (k : ℕ) → back m st inputs ≤ k → ue m st inputs k ≡ false → next_count m st inputs count k ≡ count k
    unfolding next_count
    count-stays k b u = cond-true (leb (back m st inputs) k) _ _ (le-leb (back m st inputs) k b) ∙ cond-false (ue m st inputs k) _ _ u

    pub count-came : (k : ℕ) → ue m st inputs k ≡ true → next_count m st inputs count k ≡ count_moved count k
    unfolding next_count
    count-came k u = cond-true (leb (back m st inputs) k) _ _ (le-leb (back m st inputs) k (ue-parts m st inputs k u).2) ∙ cond-true (ue m st inputs k) _ _ u

    module _ (chain : (k : ℕ) → suc k < m.stages → count k ≡ count (suc k) + one_if (st.stage (suc k)).full) where
      pub chain-full : (k : ℕ) → suc k < m.stages → (st.stage (suc k)).full ≡ true → count k ≡ suc (count (suc k))
      chain-full k h f = let e : count k ≡ count (suc k) + 1 = rw f at (chain k h) in omega arith

      pub chain-empty : (k : ℕ) → suc k < m.stages → (st.stage (suc k)).full ≡ false → count k ≡ count (suc k)
      chain-empty k h f = let e : count k ≡ count (suc k) + 0 = rw f at (chain k h) in omega arith

      -- what moved keeps its number
      pub count-moved : (k : ℕ) → suc k < m.stages → ue m st inputs k ≡ true → next_count m st inputs count (suc k) ≡ count k
      count-moved k h u =
          ⊎_elim (λ f. count-came (suc k) (moves-above k h u f))
          (λ f. count-stays (suc k) (let b : back m st inputs ≤ k = (ue-parts m st inputs k u).2 in omega arith) (ue-empty (suc k) f) ∙ sym (chain-empty k h f))
          (cases_Bool (st.stage (suc k)).full)

      -- And the count of an updating stage grows by one.
      pub count-one : (k : ℕ) → k < m.stages → ue m st inputs k ≡ true → next_count m st inputs count k ≡ suc (count k)
      count-one zero h u = count-came zero u
      count-one (suc k) h u = count-came (suc k) u ∙ chain-full k h (ue-parts m st inputs (suc k) u).0

      -- Part (a) after the cycle.
      pub chain-kept : (k : ℕ) → suc k < m.stages
          → next_count m st inputs count k ≡ next_count m st inputs count (suc k) + one_if (next_stage m st inputs (suc k)).full
      chain-kept k h = ⊎_elim
          (λ (b : suc k < back m st inputs).
          let x = count-swept k (omega arith) in
          let y = count-swept (suc k) b in
          let z : one_if (next_stage m st inputs (suc k)).full ≡ 0 = ap one_if (next-swept k b) in
          omega arith)
          (λ (b : back m st inputs ≤ suc k). ⊎_elim
          (λ (u : ue m st inputs k ≡ true).
          let x = count-one k (omega arith) u in
          let y = count-moved k h u in
          let z : one_if (next_stage m st inputs (suc k)).full ≡ 1 = ap one_if (next-moved k u) in
          omega arith)
          (λ (u : ue m st inputs k ≡ false).
          let x = same b u in
          ⊎_elim
          (λ (s : stall m st inputs (suc k) ≡ true).
          let y = count-stays (suc k) b (ue-stalled (suc k) s) in
          let w = chain-full k h (stall-full (suc k) s) in
          let z : one_if (next_stage m st inputs (suc k)).full ≡ 1 = ap one_if (next-kept k b s) in
          omega arith)
          (λ (s : stall m st inputs (suc k) ≡ false).
          let y : next_count m st inputs count (suc k) ≡ count k =
          ⊎_elim (λ f. count-came (suc k) (ue-from m st inputs (suc k) f s b)) (λ f. count-stays (suc k) b (ue-empty (suc k) f) ∙ sym (chain-empty k h f)) (cases_Bool (st.stage (suc k)).full) in
          let z : one_if (next_stage m st inputs (suc k)).full ≡ 0 = ap one_if (next-none k u s) in
          omega arith)
          (cases_Bool (stall m st inputs (suc k))))
          (cases_Bool (ue m st inputs k)))
          (cases_lt (suc k) (back m st inputs))
        where
          -- without an update of stage k its count stays, squashed or not
          same : back m st inputs ≤ suc k → ue m st inputs k ≡ false → next_count m st inputs count k ≡ count k
          same b u =
              ⊎_elim (λ (q : k < back m st inputs). let e : back m st inputs - 1 ≡ k = omega arith in count-swept k q ∙ ap count e)
              (λ q. count-stays k q u) (cases_lt k (back m st inputs))
