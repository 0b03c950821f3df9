-- The numbers in the stages of a run of a machine stay close together.
use Rattle.std.proofs.Common.{◌≡◌, ℕ, zero, suc, ◌+◌, ◌-◌, ◌<◌, ◌≤◌, List, [], ◌∷◌, Option, take, length, get_or, refl, ap, arith, Bool, true, false, ⊎_elim}
use Rattle.std.{specs.List.AllByRecursion, proofs.lemmas.Bool.cases_lt, proofs.lemmas.Bool.false≢true}
use Rattle.kp_pipeline.specs.{Accepted.Accepted, Claims.StandsBefore, Machine.Machine, Sequential.PendingGuess}
use Rattle.kp_pipeline.specs.Pipeline.{Inputs, PipelineState, above, back, cycle, pipeline_start, some_differs, ue}
use Rattle.kp_pipeline.specs.Rows.{Row, count_after, counts, counts_from, one_if, pipe, row, rows_from, state_after}
use Rattle.kp_pipeline.proofs.{Counts.AgreeBelow, Counts.counts-chain, Counts.counts-row, Invariant.Shape}
use Rattle.kp_pipeline.proofs.{Movement.count-one, Movement.count-stays, Movement.next_count, NextState.back-mismatch, Pending.shape-kept, Pending.shape-start}
use Rattle.kp_stalls_run.specs.inner.Running.{StaysClose}
use Rattle.kp_machine.proofs.Cases.{by_test}

-- neighbours differ by at most one
module _ (c : ℕ → ℕ) (n : ℕ) (chain : (k : ℕ) → suc k < n → (c (suc k) ≤ c k) × (c k ≤ c (suc k) + 1)) where
  down : (d k : ℕ) → d + suc k ≡ n → (c (n - 1) ≤ c k) × (c k ≤ c (n - 1) + d)
  down zero k e = let same : k ≡ n - 1 = omega (arith, e) in let h : c k ≡ c (n - 1) = ap c same in (omega (arith, h), omega (arith, h))
  down (suc d) k e =
      let h = down d (suc k) (omega (arith, e)) in
      let g = chain k (omega (arith, e)) in
      (omega (arith, h.0, g.0), omega (arith, h.1, g.1))

  up : (k : ℕ) → k < n → c k ≤ c 0
  up zero b = omega arith
  up (suc k) b = let h = up k (omega (arith, b)) in let g = chain k b in omega (arith, h, g.0)

-- ---- the last stage is never squashed
mismatch_below : (m : Machine) (acc : Accepted m) (view : ℕ → ℕ → Option ℕ) (r : ℕ) (xs : List PendingGuess) → some_differs view xs ≡ true
    → AllByRecursion (StandsBefore m r) xs → suc r < m.stages
mismatch_below m acc view r [] e h = absurd (false≢true e)
mismatch_below m acc view r (x ∷ xs) e h =
    let before : r < m.write_stage x.register = h.0.1 in
    let within : m.write_stage x.register < m.stages = acc.writes x.register h.0.0 in
    omega (arith, before, within)

last_kept : (m : Machine) (acc : Accepted m) (st : PipelineState) (i : Inputs) (count : ℕ → ℕ) → Shape m st count → (k : ℕ) → suc k ≡ m.stages
    → count k ≤ next_count m st i count k
last_kept m acc st i count shape k e = by_test (ue m st i k)
    (λ u. let x : next_count m st i count k ≡ suc (count k) = count-one m st i count shape.chain k (omega (arith, e)) u in omega (arith, x))
    (λ u. ⊎_elim
    (λ (q : k < back m st i). swept (back m st i - 1) (omega (arith, q)) q)
    (λ (q : back m st i ≤ k). let x : next_count m st i count k ≡ count k = count-stays m st i count k q u in omega (arith, x))
    (cases_lt k (back m st i)))
  where
    swept : (r : ℕ) → back m st i ≡ suc r → k < back m st i → count k ≤ next_count m st i count k
    swept r f q =
        let p = back-mismatch m st i r f in
        let x = mismatch_below m acc (above m st i r).truth r (st.stage r).pending p.1 (shape.between r p.2) in
        absurd (omega (arith, x, f, q, e))

last_along : (m : Machine) (acc : Accepted m) (k : ℕ) → suc k ≡ m.stages → (ins : List Inputs) (st : PipelineState) (c d : ℕ → ℕ) → Shape m st d → AgreeBelow m.stages c d
    → (T : ℕ) → counts_from m.stages c (rows_from m st ins) T k ≤ counts_from m.stages c (rows_from m st ins) (suc T) k
last_along m acc k e [] st c d shape same zero = omega arith
last_along m acc k e [] st c d shape same (suc T) = omega arith
last_along m acc k e (i ∷ ins) st c d shape same zero =
    let b : k < m.stages = omega (arith, e) in
    let before : c k ≡ d k = same k b in
    let after : count_after m.stages (row m st i) c k ≡ next_count m st i d k = counts-row m st i c d same k b in
    let x : d k ≤ next_count m st i d k = last_kept m acc st i d shape k e in
    omega (arith, before, after, x)
last_along m acc k e (i ∷ ins) st c d shape same (suc T) =
    last_along m acc k e ins (cycle m st i) (count_after m.stages (row m st i) c) (next_count m st i d) (shape-kept m acc st i d shape) (counts-row m st i c d same) T

close-in : (n : ℕ) (rows : List Row) → 1 ≤ n → ((T k : ℕ) → suc k < n → (counts n rows T (suc k) ≤ counts n rows T k) × (counts n rows T k ≤ counts n rows T (suc k) + 1))
    → ((T : ℕ) → counts n rows T (n - 1) ≤ counts n rows (suc T) (n - 1)) → StaysClose n rows
close-in n rows some chain more = record {
  least = λ T k b. let h = down (counts n rows T) n (chain T) (n - suc k) k (omega (arith, b)) in h.0;
  greatest = λ T k b. up (counts n rows T) n (chain T) k b;
  few = λ T. let h = down (counts n rows T) n (chain T) (n - 1) 0 (omega (arith, some)) in let g = h.1 in omega (arith, g, some);
  more = more;
}

one_or_none : (x : Bool) → one_if x ≤ 1
one_or_none true = omega arith
one_or_none false = omega arith

module _ (m : Machine) (acc : Accepted m) (s : ℕ → ℕ → ℕ) (hints : ℕ → ℕ) (ins : List Inputs) where
  abbrev rows : List Row
  rows = (pipe m s hints ins).rows

  neighbours : (T k : ℕ) → suc k < m.stages → (counts m.stages rows T (suc k) ≤ counts m.stages rows T k) × (counts m.stages rows T k ≤ counts m.stages rows T (suc k) + 1)
  neighbours T k b =
      let e = counts-chain m s hints ins acc k T b in
      let f = one_or_none ((state_after m (pipeline_start s hints) ins T).stage (suc k)).full in
      (omega (arith, e), omega (arith, e, f))

  pub stays_close : StaysClose m.stages rows
  stays_close = close-in m.stages rows acc.some_stages neighbours
      (λ T. last_along m acc (m.stages - 1) (let h = acc.some_stages in omega (arith, h)) ins (pipeline_start s hints) (λ k. 0) (λ k. 0) (shape-start m s hints) (λ k b. refl) T)

-- THE NUMBERS after T rows are those of the first T rows.
counts_first : (n : ℕ) (c : ℕ → ℕ) (rows : List Row) (T : ℕ) → T ≤ length rows → counts_from n c (take T rows) T ≡ counts_from n c rows T
counts_first n c rows zero b = refl
counts_first n c [] (suc T) b = refl
counts_first n c (r ∷ rows) (suc T) b = counts_first n (count_after n r c) rows T (omega (arith, b))

pub counts_first_rows : (n : ℕ) (rows : List Row) (T : ℕ) → T ≤ length rows → counts n (take T rows) T ≡ counts n rows T
counts_first_rows n rows T b = counts_first n (λ k. 0) rows T b

-- and one row more counts
counts_next : (n : ℕ) (c : ℕ → ℕ) (rows : List Row) (T : ℕ) (d : Row) → T < length rows → counts_from n c rows (suc T) ≡ count_after n (get_or rows T d) (counts_from n c rows T)
counts_next n c [] T d b = absurd (omega (arith, b))
counts_next n c (r ∷ rows) zero d b = refl
counts_next n c (r ∷ rows) (suc T) d b = counts_next n (count_after n r c) rows T d (omega (arith, b))

pub counts_next_row : (n : ℕ) (rows : List Row) (T : ℕ) (d : Row) → T < length rows → counts n rows (suc T) ≡ count_after n (get_or rows T d) (counts n rows T)
counts_next_row n rows T d b = counts_next n (λ k. 0) rows T d b
