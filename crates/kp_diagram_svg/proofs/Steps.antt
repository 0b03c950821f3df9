-- The steps of the loops that write a picture.
use Rattle.std.proofs.Common.{◌≡◌, ◌∙◌, ℕ, suc, ◌+◌, ◌<◌, ◌≤◌, Bool, true, false, cond, List, [], ◌∷◌, ◌++◌, length, get_or, drop, Option, Some, None, ap, sym, arith}
use Rattle.std.proofs.lemmas.List.{drop_all, drop_more}
use Rattle.kp_base.specs.declared.row.Row as masks
use Rattle.kp_sched.specs.Rows.{row_seen, rows_seen}
use Rattle.kp_diagram.specs.Diagram.{Cell, Fetch, Mark, cells_from, is_squashed, mark, next_place}
use Rattle.kp_diagram_text.proofs.Fetches.{cell_at, cells_step, fetch_of, last_cells, no_cells}
use Rattle.kp_diagram_svg.specs.Picture.{cell_text, cells_text, column_text, columns_text, row_text, rows_text}

-- THE COLUMNS
module _ (n half : ℕ) (rows : List masks.Row) (T : ℕ) where
  pub columns_end : length rows ≤ T → columns_text half T (rows_seen n (drop T rows)) ≡ []
  columns_end b = ap (λ (rs : List masks.Row). columns_text half T (rows_seen n rs)) (drop_all T rows b)

  pub columns_next : (r d : masks.Row) (wrong : Bool) → T < length rows → r ≡ get_or rows T d → wrong ≡ is_squashed (row_seen n r) 0
      → columns_text half T (rows_seen n (drop T rows)) ≡ column_text half T wrong ++ columns_text half (T + 1) (rows_seen n (drop (T + 1) rows))
  columns_next r d wrong b is squashed =
      ap (λ (rs : List masks.Row). columns_text half T (rows_seen n rs)) (drop_more rows T d b ∙ ap (λ (x : masks.Row). x ∷ drop (T + 1) rows) (sym is))
      ∙ ap (λ (w : Bool). column_text half T w ++ columns_text half (T + 1) (rows_seen n (drop (T + 1) rows))) (sym squashed)

-- CELLS
module _ (n : ℕ) (ext : ℕ → ℕ → Bool) (rows : List masks.Row) (T : ℕ) where
  module _ (half : ℕ) (names : List (List ℕ)) (number : ℕ) where
    pub cells_gone : (place : Option ℕ) → place ≡ None → cells_text half names number (cells_from n ext T (rows_seen n (drop T rows)) place) ≡ []
    cells_gone place gone = ap (cells_text half names number) (no_cells n ext rows T place gone)

    pub cells_end : (place : Option ℕ) → length rows ≤ T
        → cells_text half names number (cells_from n ext T (rows_seen n (drop T rows)) place) ≡ []
    cells_end place b = ap (cells_text half names number) (last_cells n ext rows T place b)

  module _ (r d : masks.Row) (b : T < length rows) (is : r ≡ get_or rows T d) (half : ℕ) (names : List (List ℕ)) (number : ℕ) where
    pub cells_next : (k : ℕ) (m : Mark) (place next : Option ℕ) → place ≡ Some k → m ≡ mark (ext T) (row_seen n r) k
        → next ≡ next_place n (row_seen n r) k
        → cells_text half names number (cells_from n ext T (rows_seen n (drop T rows)) place)
        ≡ cell_text half names number (cell_at T k m)
        ++ cells_text half names number (cells_from n ext (T + 1) (rows_seen n (drop (T + 1) rows)) next)
    cells_next k m place next there marked to = ap (cells_text half names number) (cells_step n ext rows T r d b is k m place next there marked to)

-- ROWS of cells: the row of a fetch that there may be, and the rows after it.
pub rows_next : (half : ℕ) (names : List (List ℕ)) (i next number : ℕ) (cells : List Cell) (enters : Bool) (fetches later : List Fetch)
    → fetches ≡ cond enters (fetch_of number cells ∷ []) [] ++ later → next ≡ cond enters (i + 1) i
    → rows_text half names i fetches ≡ cond enters (row_text half names i number cells) [] ++ rows_text half names next later
rows_next half names i next number cells true fetches later e to =
    ap (rows_text half names i) e ∙ ap (λ (j : ℕ). row_text half names i number cells ++ rows_text half names j later) (sym to)
rows_next half names i next number cells false fetches later e to =
    ap (rows_text half names i) e ∙ ap (λ (j : ℕ). rows_text half names j later) (sym to)

-- their number
pub length_next : (i next number : ℕ) (cells : List Cell) (enters : Bool) (fetches later : List Fetch)
    → fetches ≡ cond enters (fetch_of number cells ∷ []) [] ++ later → next ≡ cond enters (i + 1) i
    → i + length fetches ≡ next + length later
length_next i next number cells true fetches later e to =
    let long : length fetches ≡ suc (length later) = ap length e in
    let is : next ≡ i + 1 = to in omega (arith, long, is)
length_next i next number cells false fetches later e to =
    let long : length fetches ≡ length later = ap length e in
    let is : next ≡ i = to in omega (arith, long, is)

-- A row is at most one later than the one before.
pub row_after_few : (i next T : ℕ) (enters : Bool) → next ≡ cond enters (i + 1) i → i ≤ T → next ≤ T + 1
row_after_few i next T true to b = let is : next ≡ i + 1 = to in omega (arith, is, b)
row_after_few i next T false to b = let is : next ≡ i = to in omega (arith, is, b)
