-- The instructions that have a line, and the lines with their labels.
use Rattle.std.proofs.Common.{◌≡◌, ◌∙◌, ℕ, suc, ◌+◌, ◌-◌, ◌*◌, ◌<◌, ◌≤◌, Bool, true, false, cond, ◌||◌, List, [], ◌∷◌, ◌++◌, length, get_or, map, take, drop, Option, Some, None, refl, ap, ap₂, sym, append_assoc, append-nil, decimal, arith}
use Rattle.std.proofs.lemmas.{List.map-append, List.take_more, List.drop_all, Grind.flat_map-append, List.Elements.All-head, List.Elements.All-tail}
use Rattle.std.specs.{Prelude.codes, Prelude.flat_map, List.All}
use Rattle.kp_base.specs.declared.row.Row as masks
use Rattle.kp_pipeline.specs.Rows.{Row}
use Rattle.kp_diagram.specs.Diagram.{Fetch, Mark, account_from, cells_from, fetches_next, is_last, mark, next_place, retires}
use Rattle.kp_diagram.specs.Flights.{Placed, carried, entering}
use Rattle.kp_sched.{specs.Rows.row_seen, specs.Rows.rows_seen, proofs.Counting.seen_length}
use Rattle.kp_diagram_text.specs.declared.{chart.Chart.Chart, entries.Entry.Entry, labelled.Labelled.Labelled, window.Placed.Placed as PlacedCode, window.Window.Window}
use Rattle.kp_diagram_text.specs.{Charts.ext_of, Charts.names_of, Charts.rows_of, Labelled.IsEntry, Labelled.fetch_at, Labelled.labelled_at, Labelled.labelled_line, Labelled.labelled_start, Labelled.labelled_text, Labelled.span_title, Losses.losses_shown, Windows.placed_seen, Windows.window_figure, Windows.window_lines, inner.Lines.line_of}
use Rattle.kp_diagram_text.specs.Text.{account_text, column, cycle_numbers, entered, in_column, legend, spaces}
use Rattle.kp_diagram_text.proofs.Fetches.{cell_at, cells_step, fetch_of, last_cells, no_cells, split}

-- IN FLIGHT
carried_more : (n : ℕ) (ext : ℕ → ℕ → Bool) (rows : List Row) (ps : List Placed) (p : Placed)
    → carried n ext 0 rows (ps ++ p ∷ []) ≡ carried n ext 0 rows ps ++ fetch_of p.number (cells_from n ext 0 rows (Some p.stage)) ∷ []
carried_more n ext rows [] p = refl
carried_more n ext rows (q ∷ ps) p = ap (λ (fs : List Fetch). fetch_of q.number (cells_from n ext 0 rows (Some q.stage)) ∷ fs) (carried_more n ext rows ps p)

module _ (c : Chart) where
  abbrev flying : List Placed → List Fetch
  flying ps = carried c.stages (ext_of c) 0 (rows_of c) ps

  abbrev fetches : List Entry → List Fetch
  fetches es = map (fetch_at c) es

  pub pushed : (old items : List Entry) (e : Entry) → items ≡ old ++ e ∷ [] → fetches items ≡ fetches old ++ fetch_at c e ∷ []
  pushed old items e is = ap fetches is ∙ map-append (fetch_at c) old (e ∷ [])

  pub flight_more : (old items : List Entry) (start : List Fetch) (flight : List PlacedCode) (i : ℕ) (x : PlacedCode) → i < length flight → x ≡ get_or flight i x
      → items ≡ old ++ record { number = x.number; cycle = 0; stage = x.stage } ∷ [] → fetches old ≡ start ++ flying (map placed_seen (take i flight))
      → fetches items ≡ start ++ flying (map placed_seen (take (i + 1) flight))
  flight_more old items start flight i x b at is kept =
      let e : Entry = record { number = x.number; cycle = 0; stage = x.stage } in
      let more : take (i + 1) flight ≡ take i flight ++ x ∷ [] = take_more flight i x b ∙ ap (λ (y : PlacedCode). take i flight ++ y ∷ []) (sym at) in
      pushed old items e is
      ∙ ap (λ (fs : List Fetch). fs ++ fetch_at c e ∷ []) kept
      ∙ append_assoc start (flying (map placed_seen (take i flight))) (fetch_at c e ∷ [])
      ∙ ap (λ (fs : List Fetch). start ++ fs) (sym (carried_more c.stages (ext_of c) (rows_of c) (map placed_seen (take i flight)) (placed_seen x)))
      ∙ ap (λ (ps : List Placed). start ++ flying ps) (sym (ap (map placed_seen) more ∙ map-append placed_seen (take i flight) (x ∷ [])))

  -- ENTERING
  module _ (numbers : ℕ → ℕ) (T : ℕ) where
    abbrev later : ℕ → Bool → List Fetch
    later U enters = entering c.stages (ext_of c) U numbers enters (rows_seen c.stages (drop U c.rows.now))

    pub later_end : (enters : Bool) → length c.rows.now ≤ T → later T enters ≡ []
    later_end enters b = ap (λ (rs : List masks.Row). entering c.stages (ext_of c) T numbers enters (rows_seen c.stages rs)) (drop_all T c.rows.now b)

    module _ (r d : masks.Row) (b : T < length c.rows.now) (is : r ≡ get_or c.rows.now T d) where
      abbrev n : ℕ
      n = c.stages

      abbrev rest : List masks.Row
      rest = drop (T + 1) c.rows.now

      here : (enters : Bool) → entering n (ext_of c) T numbers enters (rows_seen n (r ∷ rest))
          ≡ cond enters (fetch_of (numbers T) (cells_from n (ext_of c) T (rows_seen n (r ∷ rest)) (Some 0)) ∷ []) []
          ++ entering n (ext_of c) (suc T) numbers (fetches_next (row_seen n r)) (rows_seen n rest)
      here true = refl
      here false = refl

      later_next : (enters next : Bool) (number : ℕ) → next ≡ fetches_next (row_seen n r) → number ≡ numbers T
          → later T enters ≡ cond enters (fetch_at c (record { number = number; cycle = T; stage = 0 }) ∷ []) [] ++ later (T + 1) next
      later_next enters next number to named =
          let left = split n (ext_of c) c.rows.now T r d b is in
          let on : suc T ≡ T + 1 = omega arith in
          ap (λ (rs : List masks.Row). entering n (ext_of c) T numbers enters (rows_seen n rs)) left
          ∙ here enters
          ∙ ap₂ (λ (rs : List masks.Row) (i : ℕ). cond enters (fetch_of i (cells_from n (ext_of c) T (rows_seen n rs) (Some 0)) ∷ []) []
          ++ entering n (ext_of c) (suc T) numbers (fetches_next (row_seen n r)) (rows_seen n rest)) (sym left) (sym named)
          ∙ ap₂ (λ (U : ℕ) (e : Bool). cond enters (fetch_at c (record { number = number; cycle = T; stage = 0 }) ∷ []) []
          ++ entering n (ext_of c) U numbers e (rows_seen n rest)) on (sym to)

      pub entering_more : (old items total : List Fetch) (enters next : Bool) (number : ℕ) → next ≡ fetches_next (row_seen n r) → number ≡ numbers T
          → items ≡ old ++ cond enters (fetch_at c (record { number = number; cycle = T; stage = 0 }) ∷ []) [] → old ++ later T enters ≡ total
          → items ++ later (T + 1) next ≡ total
      entering_more old items total enters next number to named is kept =
          let now = cond enters (fetch_at c (record { number = number; cycle = T; stage = 0 }) ∷ []) [] in
          ap (λ (fs : List Fetch). fs ++ later (T + 1) next) is
          ∙ append_assoc old now (later (T + 1) next)
          ∙ ap (λ (fs : List Fetch). old ++ fs) (sym (later_next enters next number to named))
          ∙ kept

  -- THE END of an instruction
  module _ (T : ℕ) where
    abbrev following : ℕ → Option ℕ → Bool
    following U place = retires c.stages (cells_from c.stages (ext_of c) U (rows_seen c.stages (drop U c.rows.now)) place)

    pub gone : (place : Option ℕ) → place ≡ None → following T place ≡ false
    gone place is = ap (retires c.stages) (no_cells c.stages (ext_of c) c.rows.now T place is)

    pub ended : (place : Option ℕ) → length c.rows.now ≤ T → following T place ≡ false
    ended place b = ap (retires c.stages) (last_cells c.stages (ext_of c) c.rows.now T place b)

    module _ (r d : masks.Row) (b : T < length c.rows.now) (is : r ≡ get_or c.rows.now T d) (k : ℕ) (m : Mark) (place next : Option ℕ) (at : place ≡ Some k)
        (marked : m ≡ mark (ext_of c T) (row_seen c.stages r) k) (to : next ≡ next_place c.stages (row_seen c.stages r) k) where
      one_cycle : following T place ≡ (is_last c.stages (cell_at T k m) || following (T + 1) next)
      one_cycle = ap (retires c.stages) (cells_step c.stages (ext_of c) c.rows.now T r d b is k m place next at marked to)

      pub leaves_now : true ≡ is_last c.stages (cell_at T k m) → true ≡ following T place
      leaves_now h = ap (λ (x : Bool). x || following (T + 1) next) h ∙ sym one_cycle

      pub leaves_later : false ≡ is_last c.stages (cell_at T k m) → following (T + 1) next ≡ following T place
      leaves_later h = ap (λ (x : Bool). x || following (T + 1) next) h ∙ sym one_cycle

  -- THE LINES
  entered_at : (e : Entry) → IsEntry c e → entered (fetch_at c e).cells ≡ e.cycle
  entered_at e is =
      let d : masks.Row = record { full = 0; ue = 0; back = 0 } in
      ap entered (cells_step c.stages (ext_of c) c.rows.now e.cycle (get_or c.rows.now e.cycle d) d is.cycle refl e.stage _ (Some e.stage) _ refl refl refl)

  pub labelled_lines : (width : ℕ) (label : Fetch → List ℕ) (ls : List Labelled) → All (λ (l : Labelled). IsEntry c l.entry) ls
      → All (λ (l : Labelled). l.label.items ≡ label (fetch_at c l.entry)) ls
      → flat_map (line_of c width) ls ≡ flat_map (labelled_line width (names_of c) label) (map (λ (l : Labelled). fetch_at c l.entry) ls)
  labelled_lines width label [] within labels = refl
  labelled_lines width label (l ∷ ls) within labels =
      let f = fetch_at c l.entry in
      let first : l.label.items ≡ label f = All-head (λ (l : Labelled). l.label.items ≡ label (fetch_at c l.entry)) l ls labels in
      let at : entered f.cells ≡ l.entry.cycle = entered_at l.entry (All-head (λ (l : Labelled). IsEntry c l.entry) l ls within) in
      ap₂ (λ (a b : List ℕ). a ++ b)
      (ap₂ (λ (t : List ℕ) (T : ℕ). labelled_at width (names_of c) t T l.entry.number f.cells) first (sym at))
      (labelled_lines width label ls (All-tail (λ (l : Labelled). IsEntry c l.entry) l ls within) (All-tail (λ (l : Labelled). l.label.items ≡ label (fetch_at c l.entry)) l ls labels))

-- THE TEXT
pub start_is : (width number T : ℕ) (given label : List ℕ) → given ≡ label
    → in_column 11 (decimal number) ++ (codes " " ++ (given ++ (spaces (T * width) ++ []))) ≡ labelled_start width label number T
start_is width number T given label is =
    ap (λ (t : List ℕ). in_column 11 (decimal number) ++ (codes " " ++ (t ++ (spaces (T * width) ++ [])))) is
    ∙ ap (λ (t : List ℕ). in_column 11 (decimal number) ++ (codes " " ++ (label ++ t))) (append-nil (spaces (T * width)))

pub labelled_whole : (c : Chart) (w : Window) (heading : List ℕ) (label : Fetch → List ℕ) (ls : List Labelled) (width : ℕ)
    → width ≡ column (names_of c) c.stages (w.from + length c.rows.now) → All (λ (l : Labelled). IsEntry c l.entry) ls
    → All (λ (l : Labelled). l.label.items ≡ label (fetch_at c l.entry)) ls → map (λ (l : Labelled). fetch_at c l.entry) ls ≡ window_lines c w
    → (span_title c.name.now c.stages w.from (length c.rows.now) ++ (heading ++ (cycle_numbers width w.from (length c.rows.now) ++ codes "\n")))
    ++ (flat_map (line_of c width) ls
    ++ (legend ++ account_text (length c.rows.now) (account_from (c.stages - 1) (ext_of c) 0 (losses_shown w.losses) (rows_of c))))
    ≡ labelled_text heading label w.from (window_figure c w)
unfolding labelled_text
labelled_whole c w heading label ls width is within labels lines =
    let long : length (rows_of c) ≡ length c.rows.now = seen_length c.stages c.rows.now in
    let account = account_from (c.stages - 1) (ext_of c) 0 (losses_shown w.losses) (rows_of c) in
    let head : ℕ → ℕ → List ℕ = λ v count. span_title c.name.now c.stages w.from count ++ (heading ++ (cycle_numbers v w.from count ++ codes "\n")) in
    let rest : ℕ → List ℕ = λ count. legend ++ account_text count account in
    ap (λ (t : List ℕ). head width (length c.rows.now) ++ (t ++ rest (length c.rows.now)))
    (labelled_lines c width label ls within labels ∙ ap (flat_map (labelled_line width (names_of c) label)) lines)
    ∙ ap₂ (λ (v count : ℕ). head v count ++ (flat_map (labelled_line v (names_of c) label) (window_lines c w) ++ rest count))
    (is ∙ ap (λ (n : ℕ). column (names_of c) c.stages (w.from + n)) (sym long)) (sym long)
