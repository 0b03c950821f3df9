-- The diagram of a window is drawn from its own rows and what the run carries to its first cycle.
use Rattle.std.proofs.Common.{◌≡◌, ◌∙◌, ℕ, zero, suc, ◌+◌, ◌-◌, ◌<◌, Bool, true, false, leb, List, [], ◌∷◌, ◌++◌, length, Option, Some, None, refl, sym, ap, ap₂, append_assoc, arith, le-leb}
use Rattle.std.proofs.lemmas.Bool.{cond-true, cond-false, lt-leb}
use Rattle.kp_pipeline.specs.Rows.{Row, count_after, counts_from}
use Rattle.kp_diagram.specs.Diagram.{Account, Cell, Fetch, Loss, Filling, DataHazard, WrongGuess, Outside, account, account_from, and_cycle, cells_from, diagram, fetches_from, fetches_next, losses_after, lost_to, mark, next_place}
use Rattle.kp_diagram.specs.{Windows.cells_after, Windows.minus, Windows.window, Windows.with_cells}
use Rattle.kp_diagram.specs.Flights.{Placed, advanced, carried, entered, entering, flights, kept, losses_from, moved}
use Rattle.kp_diagram.proofs.Cells.{cells-none}

with-append : (number : ℕ) (cells : List Cell) (xs ys : List Fetch) → with_cells number cells (xs ++ ys) ≡ with_cells number cells xs ++ ys
with-append number [] xs ys = refl
with-append number (c ∷ cells) xs ys = refl

carried-append : (n : ℕ) (ext : ℕ → ℕ → Bool) (T : ℕ) (rows : List Row) (ps qs : List Placed)
    → carried n ext T rows (ps ++ qs) ≡ carried n ext T rows ps ++ carried n ext T rows qs
carried-append n ext T rows [] qs = refl
carried-append n ext T rows (p ∷ ps) qs =
    ap (λ (fs : List Fetch). record { number = p.number; cells = cells_from n ext T rows (Some p.stage) } ∷ fs) (carried-append n ext T rows ps qs)

module _ (n : ℕ) (ext : ℕ → ℕ → Bool) (A : ℕ) where
  window-append : (xs ys : List Fetch) → window A (xs ++ ys) ≡ window A xs ++ window A ys
  window-append [] ys = refl
  window-append (f ∷ xs) ys =
      ap (λ (fs : List Fetch). with_cells f.number (cells_after A f.cells) fs) (window-append xs ys)
      ∙ with-append f.number (cells_after A f.cells) (window A xs) (window A ys)

  -- ---- a cycle before the window

  cells-drop : (T : ℕ) → T < A → (r : Row) (rows : List Row) (k : ℕ)
      → cells_after A (cells_from n ext T (r ∷ rows) (Some k)) ≡ cells_after A (cells_from n ext (suc T) rows (next_place n r k))
  cells-drop T b r rows k = cond-false (leb A T) _ _ (lt-leb A T b)

  carried-drop : (T : ℕ) → T < A → (r : Row) (rows : List Row) (ps : List Placed)
      → window A (carried n ext T (r ∷ rows) ps) ≡ window A (carried n ext (suc T) rows (moved n r ps))
  carried-drop T b r rows [] = refl
  carried-drop T b r rows (p ∷ ps) =
      ap₂ (λ (cells : List Cell) (fs : List Fetch). with_cells p.number cells fs) (cells-drop T b r rows p.stage) (carried-drop T b r rows ps)
      ∙ onward (next_place n r p.stage)
    where
      onward : (place : Option ℕ) → with_cells p.number (cells_after A (cells_from n ext (suc T) rows place)) (window A (carried n ext (suc T) rows (moved n r ps)))
          ≡ window A (carried n ext (suc T) rows (kept p.number place (moved n r ps)))
      onward None =
          ap (λ (cells : List Cell). with_cells p.number (cells_after A cells) (window A (carried n ext (suc T) rows (moved n r ps)))) (cells-none n ext (suc T) rows)
      onward (Some k) = refl

  -- the instructions that enter after cycle T
  abbrev later : ℕ → (ℕ → ℕ) → List Row → List Fetch
  later T count [] = []
  later T count (r ∷ rows) = fetches_from n ext (suc T) (count_after n r count) (fetches_next r) rows

  abbrev lines : ℕ → (ℕ → ℕ) → List Placed → List Row → List Fetch
  lines T count ps rows = carried n ext T rows ps ++ later T count rows

  enter-split : (T : ℕ) (count : ℕ → ℕ) (e : Bool) (rows : List Row)
      → window A (fetches_from n ext T count e rows) ≡ window A (carried n ext T rows (entered e (count 0))) ++ window A (later T count rows)
  enter-split T count true [] = refl
  enter-split T count false [] = refl
  enter-split T count true (r ∷ rows) =
      with-append (count 0) (cells_after A (cells_from n ext T (r ∷ rows) (Some 0))) [] (window A (later T count (r ∷ rows)))
  enter-split T count false (r ∷ rows) = refl

  step : (T : ℕ) → T < A → (count : ℕ → ℕ) (ps : List Placed) (r : Row) (rows : List Row)
      → window A (lines T count ps (r ∷ rows))
      ≡ window A (lines (suc T) (count_after n r count) (advanced n r (count_after n r count 0) ps) rows)
  step T b count ps r rows =
      let c = count_after n r count in
      let old = carried n ext (suc T) rows (moved n r ps) in
      let new = carried n ext (suc T) rows (entered (fetches_next r) (c 0)) in
      window-append (carried n ext T (r ∷ rows) ps) (fetches_from n ext (suc T) c (fetches_next r) rows)
      ∙ ap₂ (λ (xs ys : List Fetch). xs ++ ys) (carried-drop T b r rows ps) (enter-split (suc T) c (fetches_next r) rows)
      ∙ sym (append_assoc (window A old) (window A new) (window A (later (suc T) c rows)))
      ∙ ap (λ (xs : List Fetch). xs ++ window A (later (suc T) c rows))
      (sym (window-append old new) ∙ ap (window A) (sym (carried-append n ext (suc T) rows (moved n r ps) (entered (fetches_next r) (c 0)))))
      ∙ sym (window-append (carried n ext (suc T) rows (advanced n r (c 0) ps)) (later (suc T) c rows))

  -- all cycles before the window
  walked : (before : List Row) (T : ℕ) (count : ℕ → ℕ) (ps : List Placed) (rows : List Row) → T + length before ≡ A
      → window A (lines T count ps (before ++ rows))
      ≡ window A (lines A (counts_from n count before (length before)) (flights n count ps before) rows)
  walked [] T count ps rows e = let here : T ≡ A = omega (arith, e) in ap (λ (U : ℕ). window A (lines U count ps rows)) here
  walked (r ∷ before) T count ps rows e =
      step T (omega (arith, e)) count ps r (before ++ rows)
      ∙ walked before (suc T) (count_after n r count) (advanced n r (count_after n r count 0) ps) rows (omega (arith, e))

  -- ---- the cycles of the window

  abbrev shifted : ℕ → ℕ → Bool
  shifted u = ext (A + u)

  shift : (t : ℕ) (rows : List Row) (place : Option ℕ) → cells_after A (cells_from n ext (A + t) rows place) ≡ cells_from n shifted t rows place
  shift t [] place = refl
  shift t (r ∷ rows) None = refl
  shift t (r ∷ rows) (Some k) =
      let back : (A + t) - A ≡ t = omega arith in
      let more : suc (A + t) ≡ A + suc t = omega arith in
      cond-true (leb A (A + t)) _ _ (le-leb A (A + t) (omega arith))
      ∙ ap₂ (λ (U : ℕ) (cells : List Cell). record { cycle = U; stage = k; mark = mark (ext (A + t)) r k } ∷ cells) back
      (ap (λ (U : ℕ). cells_after A (cells_from n ext U rows (next_place n r k))) more ∙ shift (suc t) rows (next_place n r k))

  carried-shift : (t : ℕ) (r : Row) (rows : List Row) (ps : List Placed)
      → window A (carried n ext (A + t) (r ∷ rows) ps) ≡ carried n shifted t (r ∷ rows) ps
  carried-shift t r rows [] = refl
  carried-shift t r rows (p ∷ ps) =
      ap₂ (λ (cells : List Cell) (fs : List Fetch). with_cells p.number cells fs) (shift t (r ∷ rows) (Some p.stage)) (carried-shift t r rows ps)

  fetches-shift : (t : ℕ) (count : ℕ → ℕ) (e : Bool) (rows : List Row)
      → window A (fetches_from n ext (A + t) count e rows) ≡ fetches_from n shifted t count e rows
  fetches-shift t count e [] = refl
  fetches-shift t count true (r ∷ rows) =
      let more : suc (A + t) ≡ A + suc t = omega arith in
      ap₂ (λ (cells : List Cell) (fs : List Fetch). with_cells (count 0) cells fs) (shift t (r ∷ rows) (Some 0))
      (ap (λ (U : ℕ). window A (fetches_from n ext U (count_after n r count) (fetches_next r) rows)) more
      ∙ fetches-shift (suc t) (count_after n r count) (fetches_next r) rows)
  fetches-shift t count false (r ∷ rows) =
      let more : suc (A + t) ≡ A + suc t = omega arith in
      ap (λ (U : ℕ). window A (fetches_from n ext U (count_after n r count) (fetches_next r) rows)) more
      ∙ fetches-shift (suc t) (count_after n r count) (fetches_next r) rows

  lines-shift : (count : ℕ → ℕ) (ps : List Placed) (r : Row) (rows : List Row)
      → window A (lines A count ps (r ∷ rows))
      ≡ carried n shifted 0 (r ∷ rows) ps ++ fetches_from n shifted 1 (count_after n r count) (fetches_next r) rows
  lines-shift count ps r rows =
      let here : A ≡ A + 0 = omega arith in
      let next : suc A ≡ A + 1 = omega arith in
      window-append (carried n ext A (r ∷ rows) ps) (later A count (r ∷ rows))
      ∙ ap₂ (λ (xs ys : List Fetch). xs ++ ys)
      (ap (λ (U : ℕ). window A (carried n ext U (r ∷ rows) ps)) here ∙ carried-shift 0 r rows ps)
      (ap (λ (U : ℕ). window A (fetches_from n ext U (count_after n r count) (fetches_next r) rows)) next
      ∙ fetches-shift 1 (count_after n r count) (fetches_next r) rows)

by-numbers : (n : ℕ) (ext : ℕ → ℕ → Bool) (t : ℕ) (count numbers : ℕ → ℕ) (e : Bool) (rows : List Row)
    → ((u : ℕ) → u < length rows → numbers (t + u) ≡ counts_from n count rows u 0) → entering n ext t numbers e rows ≡ fetches_from n ext t count e rows
by-numbers n ext t count numbers e [] h = refl
by-numbers n ext t count numbers true (r ∷ rows) h =
    let here : t + 0 ≡ t = omega arith in
    ap₂ (λ (i : ℕ) (fs : List Fetch). record { number = i; cells = cells_from n ext t (r ∷ rows) (Some 0) } ∷ fs)
    (ap numbers (sym here) ∙ h 0 (omega arith))
    (by-numbers n ext (suc t) (count_after n r count) numbers (fetches_next r) rows
    (λ u b. let e : suc t + u ≡ t + suc u = omega arith in ap numbers e ∙ h (suc u) (omega (arith, b))))
by-numbers n ext t count numbers false (r ∷ rows) h =
    by-numbers n ext (suc t) (count_after n r count) numbers (fetches_next r) rows
    (λ u b. let e : suc t + u ≡ t + suc u = omega arith in ap numbers e ∙ h (suc u) (omega (arith, b)))

abbrev pub first : List Placed
first = record { number = 0; stage = 0 } ∷ []

-- THE LINES OF A WINDOW, from its rows, and from the instructions in flight and the numbers in its cycles.
pub windowed : (n : ℕ) (ext : ℕ → ℕ → Bool) (A : ℕ) (before rows : List Row) (numbers : ℕ → ℕ) → length before ≡ A → 0 < length rows
    → ((u : ℕ) → u < length rows → numbers u ≡ counts_from n (λ k. 0) (before ++ rows) (A + u) 0)
    → window A (diagram n ext (before ++ rows))
    ≡ carried n (λ u. ext (A + u)) 0 rows (flights n (λ k. 0) first before) ++ entering n (λ u. ext (A + u)) 0 numbers false rows
windowed n ext A before [] numbers long some h = absurd (omega (arith, some))
windowed n ext A before (r ∷ rows) numbers long some h =
    let c = counts_from n (λ k. 0) before (length before) in
    enter-split n ext A 0 (λ k. 0) true (before ++ r ∷ rows)
    ∙ sym (window-append n ext A (carried n ext 0 (before ++ r ∷ rows) first) (later n ext A 0 (λ k. 0) (before ++ r ∷ rows)))
    ∙ walked n ext A before 0 (λ k. 0) first (r ∷ rows) (omega (arith, long))
    ∙ lines-shift n ext A c (flights n (λ k. 0) first before) r rows
    ∙ ap (λ (fs : List Fetch). carried n (λ u. ext (A + u)) 0 (r ∷ rows) (flights n (λ k. 0) first before) ++ fs)
    (sym (by-numbers n (λ u. ext (A + u)) 1 (count_after n r c) numbers (fetches_next r) rows
    (λ u b. let e : 1 + u ≡ suc u = omega arith in ap numbers e ∙ h (suc u) (omega (arith, b)) ∙ far (suc u))))
  where
    onward : (count : ℕ → ℕ) (xs ys : List Row) (u : ℕ) → counts_from n count (xs ++ ys) (length xs + u) 0 ≡ counts_from n (counts_from n count xs (length xs)) ys u 0
    onward count [] ys u = let e : zero + u ≡ u = omega arith in ap (λ (U : ℕ). counts_from n count ys U 0) e
    onward count (x ∷ xs) ys u =
        let e : suc (length xs) + u ≡ suc (length xs + u) = omega arith in
        ap (λ (U : ℕ). counts_from n count (x ∷ (xs ++ ys)) U 0) e ∙ onward (count_after n x count) xs ys u

    far : (u : ℕ) → counts_from n (λ k. 0) (before ++ r ∷ rows) (A + u) 0 ≡ counts_from n (counts_from n (λ k. 0) before (length before)) (r ∷ rows) u 0
    far u = ap (λ (U : ℕ). counts_from n (λ k. 0) (before ++ r ∷ rows) (U + u) 0) (sym long) ∙ onward (λ k. 0) before (r ∷ rows) u

-- THE ACCOUNT OF A WINDOW, from its rows and the losses at its first cycle.
minus-and : (o : Option Loss) (a b : Account) → minus (and_cycle o a) (and_cycle o b) ≡ minus a b
minus-and o a b = go o
  where
    less : (x y : ℕ) → suc x - suc y ≡ x - y
    less x y = omega arith

    go : (o : Option Loss) → minus (and_cycle o a) (and_cycle o b) ≡ minus a b
    go None = λ i. record { retired = less a.retired b.retired i; filling = a.filling - b.filling; hazards = a.hazards - b.hazards; guesses = a.guesses - b.guesses; outside = a.outside - b.outside }
    go (Some Filling) = λ i. record { retired = a.retired - b.retired; filling = less a.filling b.filling i; hazards = a.hazards - b.hazards; guesses = a.guesses - b.guesses; outside = a.outside - b.outside }
    go (Some DataHazard) = λ i. record { retired = a.retired - b.retired; filling = a.filling - b.filling; hazards = less a.hazards b.hazards i; guesses = a.guesses - b.guesses; outside = a.outside - b.outside }
    go (Some WrongGuess) = λ i. record { retired = a.retired - b.retired; filling = a.filling - b.filling; hazards = a.hazards - b.hazards; guesses = less a.guesses b.guesses i; outside = a.outside - b.outside }
    go (Some Outside) = λ i. record { retired = a.retired - b.retired; filling = a.filling - b.filling; hazards = a.hazards - b.hazards; guesses = a.guesses - b.guesses; outside = less a.outside b.outside i }

same : (x : ℕ) → x - 0 ≡ x
same x = omega arith

minus-none : (a : Account) → minus a (record { retired = 0; filling = 0; hazards = 0; guesses = 0; outside = 0 }) ≡ a
minus-none a =
    λ i. record { retired = same a.retired i; filling = same a.filling i; hazards = same a.hazards i; guesses = same a.guesses i; outside = same a.outside i }

module _ (last : ℕ) where
  account-split : (ext : ℕ → ℕ → Bool) (T : ℕ) (loss : ℕ → Loss) (before rows : List Row)
      → minus (account_from last ext T loss (before ++ rows)) (account_from last ext T loss before)
      ≡ account_from last ext (T + length before) (losses_from ext T loss before) rows
  account-split ext T loss [] rows =
      let here : T ≡ T + 0 = omega arith in
      minus-none (account_from last ext T loss rows) ∙ ap (λ (U : ℕ). account_from last ext U loss rows) here
  account-split ext T loss (r ∷ before) rows =
      let on : suc T + length before ≡ T + suc (length before) = omega arith in
      minus-and (lost_to last (ext T) r loss) (account_from last ext (suc T) (losses_after (ext T) r loss) (before ++ rows))
      (account_from last ext (suc T) (losses_after (ext T) r loss) before)
      ∙ account-split ext (suc T) (losses_after (ext T) r loss) before rows
      ∙ ap (λ (U : ℕ). account_from last ext U (losses_from ext (suc T) (losses_after (ext T) r loss) before) rows) on

  -- stalls that are counted from another cycle
  account-moved : (e f : ℕ → ℕ → Bool) (T t : ℕ) (loss : ℕ → Loss) (rows : List Row) → ((u : ℕ) → e (T + u) ≡ f (t + u))
      → account_from last e T loss rows ≡ account_from last f t loss rows
  account-moved e f T t loss [] h = refl
  account-moved e f T t loss (r ∷ rows) h =
      let a : T ≡ T + 0 = omega arith in
      let b : t + 0 ≡ t = omega arith in
      ap (λ (x : ℕ → Bool). and_cycle (lost_to last x r loss) (account_from last e (suc T) (losses_after x r loss) rows)) (ap e a ∙ h 0 ∙ ap f b)
      ∙ ap (and_cycle (lost_to last (f t) r loss)) (account-moved e f (suc T) (suc t) (losses_after (f t) r loss) rows
      (λ u. let c : suc T + u ≡ T + suc u = omega arith in let d : t + suc u ≡ suc t + u = omega arith in ap e c ∙ h (suc u) ∙ ap f d))

  pub account-windowed : (ext : ℕ → ℕ → Bool) (A : ℕ) (before rows : List Row) → length before ≡ A
      → minus (account last ext (before ++ rows)) (account last ext before)
      ≡ account_from last (λ u. ext (A + u)) 0 (losses_from ext 0 (λ k. Filling) before) rows
  account-windowed ext A before rows long =
      account-split ext 0 (λ k. Filling) before rows
      ∙ account-moved ext (λ u. ext (A + u)) (0 + length before) 0 (losses_from ext 0 (λ k. Filling) before) rows
      (λ u. let e : 0 + length before + u ≡ A + (0 + u) = omega (arith, long) in ap ext e)
