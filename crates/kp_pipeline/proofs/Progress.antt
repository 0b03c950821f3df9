use Rattle.std.proofs.Common.{◌≡◌, ℕ, zero, suc, ◌+◌, ◌-◌, ◌*◌, ◌<◌, ◌≤◌, Bool, true, false, not, List, [], ◌∷◌, length, Option, Some, refl, sym, ap, ◌∙◌, subst, ⊎_elim, arith, eq-eqb, mul-one}
use Rattle.std.specs.List.{AllByRecursion}
use Rattle.std.proofs.lemmas.Bool.{cases_Bool, cases_lt, cases_eq, cond-false, both_ways, false_from_ne_true, and_parts, and_left, and_right, or_from, not-true, not_from_true}
use Rattle.kp_pipeline.specs.Pipeline.{Inputs, PipelineState, StageState, above, back, candidate_hits, cycle, differs, greatest, is_candidate, next_stage, outcome, pipeline_start, some_differs, stage_zero, stall, ue}
use Rattle.kp_pipeline.specs.{Machine.Ask, Machine.Done, Machine.Guess, Machine.Machine, Machine.Tree, Sequential.PendingGuess, Sequential.run}
use Rattle.kp_pipeline.specs.{Rows.bit, Rows.bits, Rows.one_if, Rows.passed, Rows.pipe, Rows.row, Rows.rows_from, Accepted.Accepted}
use Rattle.kp_pipeline.specs.Claims.{HighestStays, HighestUpdates, IsHighestFull, Moves, StandsBefore, is_stall_free, stall_free_cycles}
use Rattle.kp_pipeline.proofs.Lists.{all-both, bit-at}
use Rattle.kp_pipeline.proofs.Cycle.{greatest-above, greatest-at, stall-above, stall-is, stall-top, truth-in, truth-top, ue-from}
use Rattle.kp_pipeline.proofs.{Movement.kept-full, Movement.next-moved, Movement.next_count, Invariant.IsNear, Invariant.Shape, NextState.back-mismatch}
use Rattle.kp_pipeline.proofs.Pending.{shape-kept, shape-start}

-- a stage that has every truth meets no hazard
run-no_hazard : (view : ℕ → ℕ → Option ℕ) (vis : ℕ → ℕ → ℕ) (h : ℕ → ℕ) (x : Tree) → ((t a : ℕ) → view t a ≡ Some (vis t a))
    → (run view h x).hazard ≡ false
run-no_hazard view vis h (Done p s w) all = refl
run-no_hazard view vis h (Ask t a g) all = rw (all t a) (run-no_hazard view vis h (g (vis t a)) all)
run-no_hazard view vis h (Guess t e g) all = rw (all t 0) (run-no_hazard view vis h (g (vis t 0)) all)

stall_free-at : (n : ℕ) (inputs : ℕ → Bool) (k : ℕ) → is_stall_free n inputs ≡ true → k < n → inputs k ≡ false
stall_free-at zero inputs k c b = absurd (omega arith)
stall_free-at (suc n) inputs k c b =
    let p = and_parts (not (inputs n)) (is_stall_free n inputs) c in
    ⊎_elim (λ (e : k ≡ n). rw e (not-true (inputs n) p.0)) (λ e. stall_free-at n inputs k p.1 (omega arith)) (cases_eq k n)

-- Guesses that are their registers' own values don't mismatch if those are the truths.
near-no_differs : (view : ℕ → ℕ → Option ℕ) (vis : ℕ → ℕ → ℕ) (xs : List PendingGuess) → ((t a : ℕ) → view t a ≡ Some (vis t a))
    → AllByRecursion (λ p. p.value ≡ vis p.register 0) xs → some_differs view xs ≡ false
near-no_differs view vis [] all h = refl
near-no_differs view vis (x ∷ xs) all h =
    or_from (differs (view x.register 0) x.value) (some_differs view xs)
    (rw (all x.register 0) (not_from_true _ (eq-eqb (vis x.register 0) x.value (sym h.0)))) (near-no_differs view vis xs all h.1)

module _ (m : Machine) (acc : Accepted m) (st : PipelineState) (inputs : Inputs) (count : ℕ → ℕ) (shape : Shape m st count) (h : ℕ) (top : IsHighestFull m.stages (λ k. (st.stage k).full) h) where
  -- The highest full stage sees the visible state alone,
  truth-above_highest : (d k : ℕ) → suc (k + d) ≡ m.stages → h ≤ k → (t a : ℕ)
      → (above m st inputs k).truth t a ≡ Some (st.visible t a)
  truth-above_highest zero k e b t a = truth-top m st inputs k t a (omega arith)
  truth-above_highest (suc d) k e b t a =
      truth-in m st inputs k t a (omega arith)
      ∙ cond-false (candidate_hits m st (suc k) t a) _ _ (and_right (is_candidate m (suc k) t) _ (and_left (st.stage (suc k)).full _ (top.2 (suc k) (omega arith) (omega arith))))
      ∙ truth-above_highest d (suc k) (omega arith) (omega arith) t a

  highest-truth : (t a : ℕ) → (above m st inputs h).truth t a ≡ Some (st.visible t a)
  highest-truth t a = truth-above_highest (m.stages - suc h) h (let x : h < m.stages = top.0 in omega arith) (omega arith) t a

  -- the highest full stage isn't squashed
  pub highest-stays : back m st inputs ≤ h
  highest-stays = ⊎_elim (λ (q : h < back m st inputs). absurd (bad (back m st inputs - 1) (omega arith) q)) (λ q. q) (cases_lt h (back m st inputs))
    where
      bad : (r : ℕ) → back m st inputs ≡ suc r → h < back m st inputs → ⊥
      bad r e q =
          let p = back-mismatch m st inputs r e in
          ⊎_elim
          (λ (i : h < r). both_ways _ (top.2 r i p.2) p.0)
          (λ (i : r ≤ h).
          let w : r ≡ h = omega arith in
          let x : some_differs (above m st inputs h).truth (st.stage h).pending ≡ true = subst (λ (n : ℕ). some_differs (above m st inputs n).truth (st.stage n).pending ≡ true) w p.1 in
          both_ways _ (near-no_differs (above m st inputs h).truth st.visible (st.stage h).pending highest-truth all-near) x)
          (cases_lt h r)
        where
          all-near : AllByRecursion (λ p. p.value ≡ st.visible p.register 0) (st.stage h).pending
          all-near =
              all-both (IsNear m st h) (StandsBefore m h) (λ p. p.value ≡ st.visible p.register 0)
              (λ p near i. near (λ j x y. top.2 j x (let w : m.write_stage p.register < m.stages = acc.writes p.register i.0 in omega arith)))
              (st.stage h).pending (shape.near h top.0 top.1) (shape.between h top.0)

  -- no stall from above,
  highest-no_stall_above : (above m st inputs h).stall ≡ false
  highest-no_stall_above = ⊎_elim
      (λ (i : suc h < m.stages). stall-above m st inputs h i ∙ (stall-is m st inputs (suc h) ∙ and_left (st.stage (suc h)).full _ (top.2 (suc h) (omega arith) i)))
      (λ (i : m.stages ≤ suc h). stall-top m st inputs h i) (cases_lt (suc h) m.stages)

  -- and no hazard.
  highest-no_hazard : (outcome m st inputs h).hazard ≡ false
  unfolding outcome
  highest-no_hazard = run-no_hazard (above m st inputs h).truth st.visible st.hints (m.body h inputs.samples (st.stage h).instruction.pipes) highest-truth

  -- So in a stall-free cycle it updates.
  pub highest-updates : is_stall_free m.stages inputs.ext ≡ true → ue m st inputs h ≡ true
  highest-updates c = ue-from m st inputs h top.1 (stall-is m st inputs h ∙ and_right (st.stage h).full _ (or_from _ _ highest-no_hazard (or_from _ _ (stall_free-at m.stages inputs.ext h c top.0) highest-no_stall_above))) highest-stays

  -- what the cycle does to the highest full stage
  pub highest-next : (g : ℕ) → IsHighestFull m.stages (λ k. ((cycle m st inputs).stage k).full) g
      → one_if (is_stall_free m.stages inputs.ext) + h ≤ m.stages * one_if (ue m st inputs (m.stages - 1)) + g
  highest-next g next =
      ⊎_elim
      (λ u.
      let c = small (is_stall_free m.stages inputs.ext) in
      ⊎_elim
      (λ (i : suc h < m.stages). let x : suc h ≤ g = reach (suc h) i (next-moved m st inputs h u) in omega arith)
      (λ (i : m.stages ≤ suc h).
      let b : h < m.stages = top.0 in
      let e : m.stages - 1 ≡ h = omega arith in
      let z : one_if (ue m st inputs (m.stages - 1)) ≡ 1 = rw e (ap one_if u) in
      let y : m.stages * one_if (ue m st inputs (m.stages - 1)) ≡ m.stages = rw z (mul-one m.stages) in
      omega arith)
      (cases_lt (suc h) m.stages))
      (λ u.
      let c : is_stall_free m.stages inputs.ext ≡ false = false_from_ne_true _ (λ c. both_ways _ u (highest-updates c)) in
      let z : one_if (is_stall_free m.stages inputs.ext) ≡ 0 = ap one_if c in
      let x : h ≤ g = reach h top.0 (kept-full m st inputs h highest-stays (⊎_elim (λ q. q) (λ q. absurd (both_ways _ u (ue-from m st inputs h top.1 q highest-stays))) (cases_Bool (stall m st inputs h)))) in
      omega arith)
      (cases_Bool (ue m st inputs h))
    where
      small : (b : Bool) → one_if b ≤ 1
      small true = omega arith
      small false = omega arith

      reach : (j : ℕ) → j < m.stages → (next_stage m st inputs j).full ≡ true → j ≤ g
      reach j b f = ⊎_elim (λ (q : g < j). absurd (both_ways _ (next.2 j q b) f)) (λ (q : j ≤ g). q) (cases_lt g j)

-- A highest full stage exists, since stage 0 is full.
pub highest-exists : (m : Machine) (st : PipelineState) → 1 ≤ m.stages → st.stage 0 ≡ stage_zero
    → (h : ℕ) × IsHighestFull m.stages (λ k. (st.stage k).full) h
highest-exists m st b e = go (greatest (λ k. (st.stage k).full) m.stages) refl
  where
    go : (g : ℕ) → greatest (λ k. (st.stage k).full) m.stages ≡ g → (h : ℕ) × IsHighestFull m.stages (λ k. (st.stage k).full) h
    go zero q =
        let x : (st.stage 0).full ≡ false = greatest-above (λ k. (st.stage k).full) m.stages 0 (omega arith) (omega arith) in
        absurd (both_ways _ x (ap (λ (c : StageState). c.full) e))
    go (suc h) q =
        let p = greatest-at (λ k. (st.stage k).full) m.stages h q in
        (h, (p.1, p.0, (λ j x y. greatest-above (λ k. (st.stage k).full) m.stages j (omega arith) y)))

-- The sum over the first U cycles: n times the number of retired instructions plus the number of the highest full
-- stage grows by one in each stall-free cycle, and never falls.
pub retires-from : (m : Machine) (acc : Accepted m) (ins : List Inputs) (st : PipelineState) (count : ℕ → ℕ) → Shape m st count
    → (h : ℕ) → IsHighestFull m.stages (λ k. (st.stage k).full) h
    → (U : ℕ) → U ≤ length (rows_from m st ins)
    → stall_free_cycles m.stages ins U + h ≤ m.stages * passed (rows_from m st ins) (m.stages - 1) U + (m.stages - 1)
retires-from m acc [] st count shape h top zero b = let x : h < m.stages = top.0 in omega arith
retires-from m acc [] st count shape h top (suc U) b = absurd (omega arith)
retires-from m acc (i ∷ is) st count shape h top zero b = let x : h < m.stages = top.0 in omega arith
retires-from m acc (i ∷ is) st count shape h top (suc U) b =
    let next = shape-kept m acc st i count shape in
    let t = highest-exists m (cycle m st i) acc.some_stages next.first in
    let x = retires-from m acc is (cycle m st i) (next_count m st i count) next t.0 t.1 U (omega arith) in
    let y = highest-next m acc st i count shape h top t.0 t.1 in
    let some = acc.some_stages in
    let z : one_if (bit (row m st i).ue (m.stages - 1)) ≡ one_if (ue m st i (m.stages - 1)) = ap one_if (bit-at (ue m st i) m.stages (m.stages - 1) (omega arith)) in
    let w : m.stages * one_if (bit (row m st i).ue (m.stages - 1)) ≡ m.stages * one_if (ue m st i (m.stages - 1)) = ap (λ (n : ℕ). m.stages * n) z in
    omega arith

-- The same between two cycles, by starting at the first.
retires-between : (m : Machine) (acc : Accepted m) (ins : List Inputs) (st : PipelineState) (count : ℕ → ℕ) → Shape m st count
    → (T U : ℕ) → T ≤ U → U ≤ length (rows_from m st ins)
    → stall_free_cycles m.stages ins U - stall_free_cycles m.stages ins T ≤ m.stages * (passed (rows_from m st ins) (m.stages - 1) U - passed (rows_from m st ins) (m.stages - 1) T) + (m.stages - 1)
retires-between m acc ins st count shape zero U a b =
    let t = highest-exists m st acc.some_stages shape.first in
    let x = retires-from m acc ins st count shape t.0 t.1 U b in
    let z : passed (rows_from m st ins) (m.stages - 1) U - 0 ≡ passed (rows_from m st ins) (m.stages - 1) U = omega arith in
    rw z (omega arith)
retires-between m acc ins st count shape (suc T) zero a b = absurd (omega arith)
retires-between m acc [] st count shape (suc T) (suc U) a b = absurd (omega arith)
retires-between m acc (i ∷ is) st count shape (suc T) (suc U) a b =
    let x = retires-between m acc is (cycle m st i) (next_count m st i count) (shape-kept m acc st i count shape) T U (omega arith) (omega arith) in
    let z : (one_if (bit (row m st i).ue (m.stages - 1)) + passed (rows_from m (cycle m st i) is) (m.stages - 1) U) - (one_if (bit (row m st i).ue (m.stages - 1)) + passed (rows_from m (cycle m st i) is) (m.stages - 1) T)
    ≡ passed (rows_from m (cycle m st i) is) (m.stages - 1) U - passed (rows_from m (cycle m st i) is) (m.stages - 1) T = omega arith in
    rw z (omega arith)

-- the highest full stage of a row is that of the state
highest-full : (m : Machine) (st : PipelineState) (h : ℕ)
    → IsHighestFull m.stages (bit (bits (λ k. (st.stage k).full) m.stages 0)) h
    → IsHighestFull m.stages (λ k. (st.stage k).full) h
highest-full m st h top = (top.0, sym (bit-at (λ k. (st.stage k).full) m.stages h top.0) ∙ top.1, (λ j x y. sym (bit-at (λ k. (st.stage k).full) m.stages j y) ∙ top.2 j x y))

updates-from : (m : Machine) (acc : Accepted m) (ins : List Inputs) (st : PipelineState) (count : ℕ → ℕ) → Shape m st count
    → HighestUpdates m.stages ins (rows_from m st ins)
updates-from m acc [] st count shape = tt
updates-from m acc (i ∷ is) st count shape = (
  (λ h c top. bit-at (ue m st i) m.stages h top.0 ∙ highest-updates m acc st i count shape h (highest-full m st h top) c),
  updates-from m acc is (cycle m st i) (next_count m st i count) (shape-kept m acc st i count shape),
)

-- The law that the pipeline moves.
pub moves : (m : Machine) (s : ℕ → ℕ → ℕ) (hints : ℕ → ℕ) (ins : List Inputs) → Accepted m → Moves m ins (pipe m s hints ins)
moves m s hints ins acc =
    (updates-from m acc ins (pipeline_start s hints) (λ k. 0) (shape-start m s hints), retires-between m acc ins (pipeline_start s hints) (λ k. 0) (shape-start m s hints))

stays-from : (m : Machine) (acc : Accepted m) (ins : List Inputs) (st : PipelineState) (count : ℕ → ℕ) → Shape m st count
    → HighestStays m.stages (rows_from m st ins)
stays-from m acc [] st count shape = tt
stays-from m acc (i ∷ ins) st count shape = ((λ h top. highest-stays m acc st i count shape h (highest-full m st h top)), stays-from m acc ins (cycle m st i) (next_count m st i count) (shape-kept m acc st i count shape))

-- The law that the highest full stage is never squashed.
pub never-squashed : (m : Machine) (s : ℕ → ℕ → ℕ) (hints : ℕ → ℕ) (ins : List Inputs) → Accepted m
    → HighestStays m.stages (pipe m s hints ins).rows
never-squashed m s hints ins acc = stays-from m acc ins (pipeline_start s hints) (λ k. 0) (shape-start m s hints)
