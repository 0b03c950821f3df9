use Rattle.std.proofs.Common.{◌≡◌, ℕ, zero, suc, ◌+◌, ◌-◌, ◌<◌, ◌≤◌, min, true, false, cond, leb, List, [], ◌∷◌, length, refl, ap, ap₂, ◌∙◌, ⊎_elim, arith, Option, ◌++◌}
use Rattle.std.specs.List.{AllByRecursion}
use Rattle.std.proofs.lemmas.Bool.{cases_Bool, cases_lt, false≢true, cond-true, cond-false}
use Rattle.kp_pipeline.specs.{Machine.Machine, Sequential.PendingGuess}
use Rattle.kp_pipeline.specs.Pipeline.{Inputs, PipelineState, above, back, cycle, mismatches, pipeline_start, some_differs, ue}
use Rattle.kp_pipeline.specs.Rows.{Row, bit, count_after, count_moved, counts, counts_from, one_if, passed, pipe, row, rows_from, state_after}
use Rattle.kp_pipeline.{specs.Accepted.Accepted, specs.Claims.StandsBefore, proofs.Lists.bit-at, proofs.Cycle.greatest-bound}
use Rattle.kp_pipeline.proofs.{Movement.count-one, Movement.count-stays, Movement.count-swept, Movement.next_count, Invariant.Shape, NextState.back-mismatch}
use Rattle.kp_pipeline.proofs.Pending.{shape-kept, shape-start}

-- COUNTS: from the stage on in which no instruction can be squashed any more, the scheduling function counts the update enables.

-- A stage that mismatches is below W, the last write stage of a guessed register.
mismatch-below_last : (m : Machine) (view : ℕ → ℕ → Option ℕ) (r : ℕ) (xs : List PendingGuess) → some_differs view xs ≡ true
    → AllByRecursion (StandsBefore m r) xs → r < m.last_guessed
mismatch-below_last m view r [] e h = absurd (false≢true e)
mismatch-below_last m view r (x ∷ xs) e h = let a : r < m.write_stage x.register = h.0.1 in let b : m.write_stage x.register ≤ m.last_guessed = h.0.2 in omega arith

module _ (m : Machine) (acc : Accepted m) (st : PipelineState) (inputs : Inputs) (count : ℕ → ℕ) (shape : Shape m st count) where
  -- A stage from W - 1 up that doesn't update keeps its count: a squash reaches stage W - 1 at most, since a mismatch
  -- is below W, and then the count of W - 1 is taken for itself.
  pub count-window : (k : ℕ) → m.last_guessed ≤ k + 1 → ue m st inputs k ≡ false → next_count m st inputs count k ≡ count k
  count-window k w u = ⊎_elim (λ (q : k < back m st inputs). swept (back m st inputs - 1) (omega arith) q) (λ q. count-stays m st inputs count k q u) (cases_lt k (back m st inputs))
    where
      swept : (r : ℕ) → back m st inputs ≡ suc r → k < back m st inputs → next_count m st inputs count k ≡ count k
      swept r e q =
          let p = back-mismatch m st inputs r e in
          let x = mismatch-below_last m (above m st inputs r).truth r (st.stage r).pending p.1 (shape.between r p.2) in
          let i : back m st inputs - 1 ≡ k = omega arith in
          count-swept m st inputs count k q ∙ ap count i

  -- So from W - 1 up the count stays the number of updates: this is what makes `passed` the number of instructions.
  pub passes-kept : (passes : ℕ) (k : ℕ) → k < m.stages → m.last_guessed ≤ k + 1 → count k ≡ passes
      → next_count m st inputs count k ≡ one_if (ue m st inputs k) + passes
  passes-kept passes k b w y = ⊎_elim
      (λ u. let x = count-one m st inputs count shape.chain k b u in let z : one_if (ue m st inputs k) ≡ 1 = ap one_if u in omega arith)
      (λ u. let x = count-window k w u in let z : one_if (ue m st inputs k) ≡ 0 = ap one_if u in omega arith)
      (cases_Bool (ue m st inputs k))

-- The counts of a run's rows are those that the proofs carry, in the stages that there are.
abbrev pub AgreeBelow : ℕ → (ℕ → ℕ) → (ℕ → ℕ) → Type 0
AgreeBelow n c d = (k : ℕ) → k < n → c k ≡ d k

module _ (m : Machine) (st : PipelineState) (i : Inputs) (c d : ℕ → ℕ) (same : AgreeBelow m.stages c d) where
  moved-same : (k : ℕ) → k < m.stages → count_moved c k ≡ count_moved d k
  moved-same zero b = ap suc (same 0 b)
  moved-same (suc k) b = same k (omega arith)

  -- `back` is at most n, so the rule for larger ones plays no part in the pipeline's own rows.
  back-bound : back m st i ≤ m.stages
  unfolding back
  back-bound = greatest-bound (mismatches m st i) m.stages

  back-min : min (back m st i) m.stages ≡ back m st i
  back-min = let x = back-bound in omega arith

  -- One cycle keeps the agreement.
  pub counts-row : AgreeBelow m.stages (count_after m.stages (row m st i) c) (next_count m st i d)
  unfolding next_count
  counts-row k b =
      rw (back-min, bit-at (ue m st i) m.stages k b)
      (⊎_elim (λ e. rw e (ap₂ (λ (x y : ℕ). cond (ue m st i k) x y) (moved-same k b) (same k b)))
      (λ e. rw e (same (back m st i - 1) (let x = back-bound in omega arith))) (cases_Bool (leb (back m st i) k)))

-- At each cycle the invariant's shape holds with the counts of the rows so far.
pub shape-along : (m : Machine) (acc : Accepted m) (ins : List Inputs) (st : PipelineState) (c d : ℕ → ℕ) → Shape m st d
    → AgreeBelow m.stages c d
    → (T : ℕ)
    → (e : ℕ → ℕ) × (Shape m (state_after m st ins T) e × AgreeBelow m.stages (counts_from m.stages c (rows_from m st ins) T) e)
shape-along m acc [] st c d shape same zero = (d, (shape, same))
shape-along m acc [] st c d shape same (suc T) = (d, (shape, same))
shape-along m acc (i ∷ ins) st c d shape same zero = (d, (shape, same))
shape-along m acc (i ∷ ins) st c d shape same (suc T) =
    shape-along m acc ins (cycle m st i) (count_after m.stages (row m st i) c) (next_count m st i d) (shape-kept m acc st i d shape) (counts-row m st i c d same) T

-- The induction over the cycles for the law on `passed`.
passes-along : (m : Machine) (acc : Accepted m) (k : ℕ) → k < m.stages → m.last_guessed ≤ k + 1
    → (ins : List Inputs) (st : PipelineState) (c d : ℕ → ℕ) (passes : ℕ)
    → Shape m st d → AgreeBelow m.stages c d → d k ≡ passes
    → (T : ℕ) → counts_from m.stages c (rows_from m st ins) T k ≡ passed (rows_from m st ins) k T + passes
passes-along m acc k b w [] st c d passes shape same e zero = let x = same k b in omega arith
passes-along m acc k b w [] st c d passes shape same e (suc T) = let x = same k b in omega arith
passes-along m acc k b w (i ∷ ins) st c d passes shape same e zero = let x = same k b in omega arith
passes-along m acc k b w (i ∷ ins) st c d passes shape same e (suc T) =
    let u : one_if (bit (row m st i).ue k) ≡ one_if (ue m st i k) = ap one_if (bit-at (ue m st i) m.stages k b) in
    let x = passes-along m acc k b w ins (cycle m st i) (count_after m.stages (row m st i) c) (next_count m st i d) (one_if (ue m st i k) + passes) (shape-kept m acc st i d shape) (counts-row m st i c d same) (passes-kept m acc st i d shape passes k b w e) T in
    omega arith

-- The law: from stage W - 1 on, counts and passed agree.
pub counts-passed : (m : Machine) (s : ℕ → ℕ → ℕ) (hints : ℕ → ℕ) (ins : List Inputs) → Accepted m → (k T : ℕ) → k < m.stages
    → m.last_guessed ≤ k + 1
    → counts m.stages (pipe m s hints ins).rows T k ≡ passed (pipe m s hints ins).rows k T
counts-passed m s hints ins acc k T b w =
    let x = passes-along m acc k b w ins (pipeline_start s hints) (λ k. 0) (λ k. 0) 0 (shape-start m s hints) (λ k b. refl) refl T in
    omega arith

-- The law: neighbours' counts differ by the full bit of the upper one.
pub counts-chain : (m : Machine) (s : ℕ → ℕ → ℕ) (hints : ℕ → ℕ) (ins : List Inputs) → Accepted m → (k T : ℕ) → suc k < m.stages
    → counts m.stages (pipe m s hints ins).rows T k ≡ counts m.stages (pipe m s hints ins).rows T (suc k) + one_if ((state_after m (pipeline_start s hints) ins T).stage (suc k)).full
counts-chain m s hints ins acc k T b =
    let x = shape-along m acc ins (pipeline_start s hints) (λ k. 0) (λ k. 0) (shape-start m s hints) (λ k b. refl) T in
    let chain = x.1.0.chain k b in
    let here = x.1.1 k (omega arith) in
    let above = x.1.1 (suc k) b in
    omega arith

-- The law: guesses are pending before the write stages of their registers alone.
pub pending-stand_before : (m : Machine) (s : ℕ → ℕ → ℕ) (hints : ℕ → ℕ) (ins : List Inputs) → Accepted m → (T k : ℕ)
    → k < m.stages
    → AllByRecursion (StandsBefore m k) ((state_after m (pipeline_start s hints) ins T).stage k).pending
pending-stand_before m s hints ins acc T k b =
    (shape-along m acc ins (pipeline_start s hints) (λ k. 0) (λ k. 0) (shape-start m s hints) (λ k b. refl) T).1.0.between k b

-- COUNTS OF ONE ROW MORE, as a monitor keeps them.
pub counts-more : (n : ℕ) (c : ℕ → ℕ) (rows : List Row) (r : Row)
    → counts_from n c (rows ++ r ∷ []) (suc (length rows)) ≡ count_after n r (counts_from n c rows (length rows))
counts-more n c [] r = refl
counts-more n c (x ∷ rows) r = counts-more n (count_after n x c) rows r

pub passed-more : (rows : List Row) (r : Row) (k : ℕ)
    → passed (rows ++ r ∷ []) k (suc (length rows)) ≡ passed rows k (length rows) + one_if (bit r.ue k)
passed-more [] r k = omega arith
passed-more (x ∷ rows) r k = let e = passed-more rows r k in omega arith

-- Both are at most the number of rows, so a monitor's counters don't overflow.
bound-after : (n B : ℕ) (r : Row) (c : ℕ → ℕ) → ((k : ℕ) → c k ≤ B) → (k : ℕ) → count_after n r c k ≤ suc B
bound-after n B r c h k =
    ⊎_elim
    (λ (e : leb (min r.back n) k ≡ true).
    let x : count_after n r c k ≡ cond (bit r.ue k) (count_moved c k) (c k) = cond-true (leb (min r.back n) k) _ _ e in
    let y = kept k in omega arith)
    (λ (e : leb (min r.back n) k ≡ false).
    let x : count_after n r c k ≡ c (min r.back n - 1) = cond-false (leb (min r.back n) k) _ _ e in
    let y = h (min r.back n - 1) in omega arith)
    (cases_Bool (leb (min r.back n) k))
  where
    moved : (k : ℕ) → count_moved c k ≤ suc B
    moved zero = let x = h 0 in omega arith
    moved (suc k) = let x = h k in omega arith

    kept : (k : ℕ) → cond (bit r.ue k) (count_moved c k) (c k) ≤ suc B
    kept k =
        ⊎_elim
        (λ (u : bit r.ue k ≡ true). let x : cond (bit r.ue k) (count_moved c k) (c k) ≡ count_moved c k = cond-true (bit r.ue k) _ _ u in let y = moved k in omega arith)
        (λ (u : bit r.ue k ≡ false). let x : cond (bit r.ue k) (count_moved c k) (c k) ≡ c k = cond-false (bit r.ue k) _ _ u in let y = h k in omega arith)
        (cases_Bool (bit r.ue k))

counts_from-bound : (n B : ℕ) (c : ℕ → ℕ) → ((k : ℕ) → c k ≤ B) → (rows : List Row) (T k : ℕ) → counts_from n c rows T k ≤ B + T
counts_from-bound n B c h rows zero k = let x = h k in omega arith
counts_from-bound n B c h [] (suc T) k = let x = h k in omega arith
counts_from-bound n B c h (r ∷ rows) (suc T) k = let x = counts_from-bound n (suc B) (count_after n r c) (bound-after n B r c h) rows T k in omega arith

pub counts-bound : (n : ℕ) (rows : List Row) (T k : ℕ) → counts n rows T k ≤ T
counts-bound n rows T k = let x = counts_from-bound n 0 (λ k. 0) (λ k. omega arith) rows T k in omega arith

pub passed-bound : (rows : List Row) (k T : ℕ) → passed rows k T ≤ T
passed-bound rows k zero = omega arith
passed-bound [] k (suc T) = omega arith
passed-bound (r ∷ rows) k (suc T) =
    let x = passed-bound rows k T in
    ⊎_elim (λ (u : bit r.ue k ≡ true). let y : one_if (bit r.ue k) ≡ 1 = ap one_if u in omega arith)
    (λ (u : bit r.ue k ≡ false). let y : one_if (bit r.ue k) ≡ 0 = ap one_if u in omega arith)
    (cases_Bool (bit r.ue k))
