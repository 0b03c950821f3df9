-- The steps of the loops that write a diagram.
use Rattle.std.proofs.Common.{◌≡◌, ◌∙◌, ℕ, suc, ◌+◌, ◌-◌, ◌<◌, ◌≤◌, Bool, true, false, cond, List, [], ◌∷◌, ◌++◌, length, get_or, take, drop, Option, Some, None, refl, ap, ap₂, sym, arith, replicate, decimal}
use Rattle.std.proofs.lemmas.{Grind.flat_map-append, List.drop_all, List.replicate-append-replicate}
use Rattle.std.specs.Prelude.{flat_map, map}
use Rattle.kp_pipeline.specs.Rows.{Row}
use Rattle.kp_base.specs.declared.row.Row as masks
use Rattle.kp_pipeline.specs.Rows.{counts}
use Rattle.kp_diagram.specs.Diagram.{Fetch, Mark, account, cells_from, diagram, fetches_from, fetches_next, mark, next_place}
use Rattle.kp_diagram.specs.Flights.{Placed, carried, entering}
use Rattle.kp_sched.{specs.Rows.row_seen, specs.Rows.rows_seen, proofs.Counting.seen_length}
use Rattle.kp_diagram_text.specs.Text.{account_text, cells_text, column, cycle_numbers, diagram_text, head, in_column, legend, line_at, line_text, lines_text, sign, spaces, stage_name}
use Rattle.kp_diagram_text.proofs.Fetches.{cells_step, fetch_of, fetches_end, fetches_step, last_cells, no_cells, split}
use Rattle.kp_diagram_text.specs.{declared.chart.Chart.Chart, Charts.ext_of, Charts.figure_of, Charts.names_of, Charts.rows_of}

-- THE TEXT of a chart, from its parts.
pub text_is : (c : Chart) (width : ℕ) → width ≡ column (names_of c) c.stages (length c.rows.now)
    → head c.name.now c.stages (length c.rows.now) width
    ++ (lines_text width (names_of c) (diagram c.stages (ext_of c) (rows_of c))
    ++ (legend ++ account_text (length c.rows.now) (account (c.stages - 1) (ext_of c) (rows_of c))))
    ≡ diagram_text (figure_of c)
unfolding diagram_text
text_is c width is =
    let long : length (rows_of c) ≡ length c.rows.now = seen_length c.stages c.rows.now in
    ap₂ (λ (w count : ℕ). head c.name.now c.stages count w
    ++ (lines_text w (names_of c) (diagram c.stages (ext_of c) (rows_of c))
    ++ (legend ++ account_text count (account (c.stages - 1) (ext_of c) (rows_of c)))))
    (is ∙ ap (column (names_of c) c.stages) (sym long)) (sym long)

-- SPACES and numbers of cycles.
pub spaces_next : (left here : ℕ) → here ≤ left → spaces left ≡ spaces here ++ spaces (left - here)
spaces_next left here b =
    let e : here + (left - here) ≡ left = omega arith in
    sym (replicate-append-replicate here (left - here) 32 ∙ ap (λ (n : ℕ). replicate n 32) e)

pub numbers_next : (width count from T : ℕ) → T < count
    → cycle_numbers width (from + T) (count - T) ≡ in_column width (decimal (from + T)) ++ cycle_numbers width (from + (T + 1)) (count - (T + 1))
numbers_next width count from T h =
    let one : count - T ≡ suc (count - (T + 1)) = omega arith in
    let on : from + T + 1 ≡ from + (T + 1) = omega arith in
    ap (λ (m : ℕ). cycle_numbers width (from + T) m) one
    ∙ ap (λ (U : ℕ). in_column width (decimal (from + T)) ++ cycle_numbers width U (count - (T + 1))) on

module _ (n : ℕ) (ext : ℕ → ℕ → Bool) (width : ℕ) (names : List (List ℕ)) (rows : List masks.Row) (T : ℕ) where
  -- CELLS
  pub cells_gone : (place : Option ℕ) → place ≡ None → cells_text width names (cells_from n ext T (rows_seen n (drop T rows)) place) ≡ []
  cells_gone place gone = ap (cells_text width names) (no_cells n ext rows T place gone)

  pub cells_end : (place : Option ℕ) → length rows ≤ T
      → cells_text width names (cells_from n ext T (rows_seen n (drop T rows)) place) ≡ []
  cells_end place b = ap (cells_text width names) (last_cells n ext rows T place b)

  module _ (r d : masks.Row) (b : T < length rows) (is : r ≡ get_or rows T d) where
    pub cells_next : (k : ℕ) (m : Mark) (place next : Option ℕ) → place ≡ Some k → m ≡ mark (ext T) (row_seen n r) k
        → next ≡ next_place n (row_seen n r) k
        → cells_text width names (cells_from n ext T (rows_seen n (drop T rows)) place)
        ≡ in_column width (stage_name names k ++ sign m)
        ++ cells_text width names (cells_from n ext (T + 1) (rows_seen n (drop (T + 1) rows)) next)
    cells_next k m place next there marked to = ap (cells_text width names) (cells_step n ext rows T r d b is k m place next there marked to)

    -- LINES
    line_or_none : (number : ℕ) (later : List Fetch) (enters : Bool) (left : List masks.Row) → left ≡ r ∷ drop (T + 1) rows
        → lines_text width names (cond enters (fetch_of number (cells_from n ext T (rows_seen n left) (Some 0)) ∷ []) [] ++ later)
        ≡ cond enters (line_at width names T number (cells_from n ext T (rows_seen n left) (Some 0))) [] ++ lines_text width names later
    line_or_none number later true left e = rw e refl
    line_or_none number later false left e = refl

    pub lines_next : (enters next : Bool) (number : ℕ) → next ≡ fetches_next (row_seen n r)
        → number ≡ counts n (rows_seen n (take T rows)) T 0
        → lines_text width names (fetches_from n ext T (counts n (rows_seen n (take T rows)) T) enters (rows_seen n (drop T rows)))
        ≡ cond enters (line_at width names T number (cells_from n ext T (rows_seen n (drop T rows)) (Some 0))) []
        ++ lines_text width names (fetches_from n ext (T + 1) (counts n (rows_seen n (take (T + 1) rows)) (T + 1)) next (rows_seen n (drop (T + 1) rows)))
    lines_next enters next number to is_number =
        ap (lines_text width names) (fetches_step n ext rows T r d b is enters next number to is_number)
        ∙ line_or_none number _ enters (drop T rows) (split n ext rows T r d b is)

  pub lines_end : (f : ℕ → ℕ) (enters : Bool) → length rows ≤ T
      → lines_text width names (fetches_from n ext T f enters (rows_seen n (drop T rows))) ≡ []
  lines_end f enters b = ap (lines_text width names) (fetches_end n ext rows T f enters b)

-- THE LINES OF A WINDOW
module _ (n : ℕ) (ext : ℕ → ℕ → Bool) (width : ℕ) (names : List (List ℕ)) where
  abbrev pub carried_line : List Row → Placed → List ℕ
  carried_line rows p = line_at width names 0 p.number (cells_from n ext 0 rows (Some p.stage))

  pub carried_lines : {X : Type 0} (place : X → Placed) (rows : List Row) (xs : List X) → 0 < length rows
      → flat_map (λ x. carried_line rows (place x)) xs ≡ lines_text width names (carried n ext 0 rows (map place xs))
  carried_lines place [] xs h = absurd (omega (arith, h))
  carried_lines place (r ∷ rows) [] h = refl
  carried_lines place (r ∷ rows) (x ∷ xs) h = ap (λ (t : List ℕ). carried_line (r ∷ rows) (place x) ++ t) (carried_lines place (r ∷ rows) xs h)

  pub both_lines : (xs ys : List Fetch) → lines_text width names (xs ++ ys) ≡ lines_text width names xs ++ lines_text width names ys
  both_lines xs ys = flat_map-append (line_text width names) xs ys

  module _ (numbers : ℕ → ℕ) (rows : List masks.Row) (T : ℕ) where
    pub entering_end : (enters : Bool) → length rows ≤ T → lines_text width names (entering n ext T numbers enters (rows_seen n (drop T rows))) ≡ []
    entering_end enters b = ap (λ (rs : List masks.Row). lines_text width names (entering n ext T numbers enters (rows_seen n rs))) (drop_all T rows b)

    pub entering_next : (r d : masks.Row) → T < length rows → r ≡ get_or rows T d → (enters next : Bool) (number : ℕ) → next ≡ fetches_next (row_seen n r) → number ≡ numbers T
        → lines_text width names (entering n ext T numbers enters (rows_seen n (drop T rows)))
        ≡ cond enters (line_at width names T number (cells_from n ext T (rows_seen n (drop T rows)) (Some 0))) []
        ++ lines_text width names (entering n ext (T + 1) numbers next (rows_seen n (drop (T + 1) rows)))
    entering_next r d b is enters next number to named =
        let left = split n ext rows T r d b is in
        let on : suc T ≡ T + 1 = omega arith in
        ap (λ (rs : List masks.Row). lines_text width names (entering n ext T numbers enters (rows_seen n rs))) left
        ∙ here enters
        ∙ ap₂ (λ (rs : List masks.Row) (i : ℕ). cond enters (line_at width names T i (cells_from n ext T (rows_seen n rs) (Some 0))) []
        ++ lines_text width names (entering n ext (suc T) numbers (fetches_next (row_seen n r)) (rows_seen n (drop (T + 1) rows)))) (sym left) (sym named)
        ∙ ap₂ (λ (U : ℕ) (e : Bool). cond enters (line_at width names T number (cells_from n ext T (rows_seen n (drop T rows)) (Some 0))) []
        ++ lines_text width names (entering n ext U numbers e (rows_seen n (drop (T + 1) rows)))) on (sym to)
      where
        here : (enters : Bool) → lines_text width names (entering n ext T numbers enters (rows_seen n (r ∷ drop (T + 1) rows)))
            ≡ cond enters (line_at width names T (numbers T) (cells_from n ext T (rows_seen n (r ∷ drop (T + 1) rows)) (Some 0))) []
            ++ lines_text width names (entering n ext (suc T) numbers (fetches_next (row_seen n r)) (rows_seen n (drop (T + 1) rows)))
        here true = refl
        here false = refl
