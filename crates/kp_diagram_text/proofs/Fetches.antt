-- The cells and the instructions of a diagram from one cycle on, by its row and what follows.
use Rattle.std.proofs.Common.{◌≡◌, ◌∙◌, ℕ, suc, ◌+◌, ◌<◌, ◌≤◌, Bool, true, false, cond, List, [], ◌∷◌, ◌++◌, length, get_or, take, drop, Option, Some, None, refl, ap, ap₂, sym, arith}
use Rattle.std.proofs.lemmas.List.{drop_all, drop_more, length-take-le, take_more}
use Rattle.kp_base.specs.declared.row.Row as masks
use Rattle.kp_pipeline.specs.Rows.{Row, count_after, counts}
use Rattle.kp_pipeline.proofs.Counts.{counts-more}
use Rattle.kp_diagram.specs.Diagram.{Cell, Fetch, Mark, cells_from, fetches_from, fetches_next, mark, next_place}
use Rattle.kp_diagram.proofs.Cells.{cells-none}
use Rattle.kp_sched.{specs.Rows.row_seen, specs.Rows.rows_seen, proofs.Counting.seen_length, proofs.Counting.seen_more}

-- A cell, and a fetch, by what they have.
abbrev pub cell_at : ℕ → ℕ → Mark → Cell
cell_at T k m = record { cycle = T; stage = k; mark = m }

abbrev pub fetch_of : ℕ → List Cell → Fetch
fetch_of i cells = record { number = i; cells = cells }

module _ (n : ℕ) (ext : ℕ → ℕ → Bool) (rows : List masks.Row) (T : ℕ) where
  -- CELLS. After the last row there are none, and none of an instruction that is in no stage.
  pub no_cells : (place : Option ℕ) → place ≡ None → cells_from n ext T (rows_seen n (drop T rows)) place ≡ []
  no_cells place gone = ap (cells_from n ext T (rows_seen n (drop T rows))) gone ∙ cells-none n ext T (rows_seen n (drop T rows))

  pub last_cells : (place : Option ℕ) → length rows ≤ T → cells_from n ext T (rows_seen n (drop T rows)) place ≡ []
  last_cells place b = ap (λ (rs : List masks.Row). cells_from n ext T (rows_seen n rs) place) (drop_all T rows b)

  module _ (r d : masks.Row) (b : T < length rows) (is : r ≡ get_or rows T d) where
    pub split : drop T rows ≡ r ∷ drop (T + 1) rows
    split = drop_more rows T d b ∙ ap (λ (x : masks.Row). x ∷ drop (T + 1) rows) (sym is)

    next_cycle : suc T ≡ T + 1
    next_cycle = omega arith

    pub cells_step : (k : ℕ) (m : Mark) (place next : Option ℕ) → place ≡ Some k → m ≡ mark (ext T) (row_seen n r) k → next ≡ next_place n (row_seen n r) k
        → cells_from n ext T (rows_seen n (drop T rows)) place ≡ cell_at T k m ∷ cells_from n ext (T + 1) (rows_seen n (drop (T + 1) rows)) next
    cells_step k m place next there marked to =
        ap₂ (λ (rs : List masks.Row) (p : Option ℕ). cells_from n ext T (rows_seen n rs) p) split there
        ∙ ap₂ (λ (o : Mark) (p : Option ℕ). cell_at T k o ∷ cells_from n ext (suc T) (rows_seen n (drop (T + 1) rows)) p) (sym marked) (sym to)
        ∙ ap (λ (U : ℕ). cell_at T k m ∷ cells_from n ext U (rows_seen n (drop (T + 1) rows)) next) next_cycle

    -- the counts of the rows so far
    counts_next : count_after n (row_seen n r) (counts n (rows_seen n (take T rows)) T) ≡ counts n (rows_seen n (take (T + 1) rows)) (T + 1)
    counts_next =
        let long : length (rows_seen n (take T rows)) ≡ T = seen_length n (take T rows) ∙ length-take-le T rows (omega arith) in
        let more : take (T + 1) rows ≡ take T rows ++ r ∷ [] = take_more rows T d b ∙ ap (λ (x : masks.Row). take T rows ++ x ∷ []) (sym is) in
        sym (ap₂ (λ (rs : List masks.Row) (U : ℕ). counts n (rows_seen n rs) U) more (sym next_cycle)
        ∙ ap₂ (λ (rs : List Row) (U : ℕ). counts n rs (suc U)) (seen_more n (take T rows) r) (sym long)
        ∙ counts-more n (λ k. 0) (rows_seen n (take T rows)) (row_seen n r)
        ∙ ap (λ (U : ℕ). count_after n (row_seen n r) (counts n (rows_seen n (take T rows)) U)) long)

    -- FETCHES. Those from this cycle on are the one that enters now, if any, and those from the next cycle on.
    now_and_later : (count : ℕ → ℕ) (enters : Bool) (rest : List masks.Row)
        → fetches_from n ext T count enters (rows_seen n (r ∷ rest))
        ≡ cond enters (fetch_of (count 0) (cells_from n ext T (rows_seen n (r ∷ rest)) (Some 0)) ∷ []) []
        ++ fetches_from n ext (suc T) (count_after n (row_seen n r) count) (fetches_next (row_seen n r)) (rows_seen n rest)
    now_and_later count true rest = refl
    now_and_later count false rest = refl

    pub fetches_step : (enters next : Bool) (number : ℕ) → next ≡ fetches_next (row_seen n r) → number ≡ counts n (rows_seen n (take T rows)) T 0
        → fetches_from n ext T (counts n (rows_seen n (take T rows)) T) enters (rows_seen n (drop T rows))
        ≡ cond enters (fetch_of number (cells_from n ext T (rows_seen n (drop T rows)) (Some 0)) ∷ []) []
        ++ fetches_from n ext (T + 1) (counts n (rows_seen n (take (T + 1) rows)) (T + 1)) next (rows_seen n (drop (T + 1) rows))
    fetches_step enters next number to is_number =
        ap (λ (rs : List masks.Row). fetches_from n ext T (counts n (rows_seen n (take T rows)) T) enters (rows_seen n rs)) split
        ∙ now_and_later (counts n (rows_seen n (take T rows)) T) enters (drop (T + 1) rows)
        ∙ ap₂ (λ (now later : List Fetch). now ++ later)
        (ap₂ (λ (rs : List masks.Row) (i : ℕ). cond enters (fetch_of i (cells_from n ext T (rows_seen n rs) (Some 0)) ∷ []) []) (sym split) (sym is_number))
        (ap₂ (λ (U : ℕ) (f : ℕ → ℕ). fetches_from n ext U f (fetches_next (row_seen n r)) (rows_seen n (drop (T + 1) rows))) next_cycle counts_next
        ∙ ap (λ (e : Bool). fetches_from n ext (T + 1) (counts n (rows_seen n (take (T + 1) rows)) (T + 1)) e (rows_seen n (drop (T + 1) rows))) (sym to))

    pub take_next : take T rows ++ r ∷ [] ≡ take (T + 1) rows
    take_next = sym (take_more rows T d b ∙ ap (λ (x : masks.Row). take T rows ++ x ∷ []) (sym is))

  pub fetches_end : (f : ℕ → ℕ) (enters : Bool) → length rows ≤ T → fetches_from n ext T f enters (rows_seen n (drop T rows)) ≡ []
  fetches_end f enters b = ap (λ (rs : List masks.Row). fetches_from n ext T f enters (rows_seen n rs)) (drop_all T rows b)
