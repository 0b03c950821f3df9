-- What a run carries, one cycle later.
use Rattle.std.proofs.Common.{◌≡◌, ◌∙◌, ℕ, zero, suc, ◌+◌, ◌-◌, ◌<◌, ◌≤◌, Bool, List, [], ◌∷◌, ◌++◌, All, length, map, get_or, refl, ap, ap₂, sym, arith, length-append, ⊎_elim}
use Rattle.std.proofs.lemmas.{Bool.cases_lt, List.get_or_append_left, List.get_or_push}
use Rattle.kp_base.specs.declared.row.Row as masks
use Rattle.kp_ast.specs.declared.tree.Job.{Job}
use Rattle.kp_pipeline.specs.Rows.{Row, count_after, counts, counts_from}
use Rattle.kp_pipeline.proofs.Counts.{counts-more}
use Rattle.kp_diagram.specs.Diagram.{Loss, Filling, losses_after}
use Rattle.kp_diagram.specs.Flights.{Placed, advanced, flights, losses_from}
use Rattle.kp_net.specs.Netlist.{Net, last_of, row_of, run, start_of}
use Rattle.kp_net.proofs.Runs.{rows_more}
use Rattle.kp_sched.specs.{Monitors.HasSeen, Rows.bit_of, Rows.row_seen, Rows.rows_seen}
use Rattle.kp_sched.proofs.Counting.{seen_length, seen_more}
use Rattle.kp_run.specs.Cycles.{input_at, inputs_to}
use Rattle.kp_diagram_text.specs.{Losses.losses_shown, Windows.placed_seen}
use Rattle.kp_diagram_text.specs.declared.window.Placed as code
use Rattle.kp_diagram_text.proofs.Accounts.{after-alike}
use Rattle.kp_diagram_run.specs.{Windows.first, inner.Walks.IsWalked, declared.window.Walk.Walk}

flights-more : (n : ℕ) (c : ℕ → ℕ) (ps : List Placed) (rows : List Row) (r : Row)
    → flights n c ps (rows ++ r ∷ []) ≡ advanced n r (count_after n r (counts_from n c rows (length rows)) 0) (flights n c ps rows)
flights-more n c ps [] r = refl
flights-more n c ps (x ∷ rows) r = flights-more n (count_after n x c) (advanced n x (count_after n x c 0) ps) rows r

losses-more : (ext : ℕ → ℕ → Bool) (T : ℕ) (loss : ℕ → Loss) (rows : List Row) (r : Row)
    → losses_from ext T loss (rows ++ r ∷ []) ≡ losses_after (ext (T + length rows)) r (losses_from ext T loss rows)
losses-more ext T loss [] r = let e : T ≡ T + 0 = omega arith in ap (λ (U : ℕ). losses_after (ext U) r loss) e
losses-more ext T loss (x ∷ rows) r =
    let e : suc T + length rows ≡ T + suc (length rows) = omega arith in
    losses-more ext (suc T) (losses_after (ext T) x loss) rows r
    ∙ ap (λ (U : ℕ). losses_after (ext U) r (losses_from ext (suc T) (losses_after (ext T) x loss) rows)) e

-- the counts in the cycles of some rows don't depend on later ones
counts-front : (n : ℕ) (c : ℕ → ℕ) (xs ys : List Row) (T : ℕ) → T ≤ length xs → counts_from n c (xs ++ ys) T ≡ counts_from n c xs T
counts-front n c xs ys zero h = refl
counts-front n c [] ys (suc T) h = absurd (omega (arith, h))
counts-front n c (x ∷ xs) ys (suc T) h = counts-front n (count_after n x c) xs ys T (omega (arith, h))

module _ (n : ℕ) (rows : List masks.Row) (row : masks.Row) where
  abbrev r : Row
  r = row_seen n row

  abbrev rs : List Row
  rs = rows_seen n rows

  more : rows_seen n (rows ++ row ∷ []) ≡ rs ++ r ∷ []
  more = seen_more n rows row

  here : length rows ≡ 0 + length rs
  here = omega (arith, seen_length n rows)

  long : length (rows ++ row ∷ []) ≡ suc (length rs)
  long = let e = length-append rows (row ∷ []) in omega (arith, e, seen_length n rows)

  pub walked-more : (word number : ℕ) (ext : ℕ → ℕ → Bool) (old new : Walk) → 1 ≤ n → ext (length rows) ≡ bit_of word → IsWalked n ext rows old
      → HasSeen new.monitor (rows ++ row ∷ []) → new.monitor.stages ≡ n
      → number ≡ counts n (rows_seen n (rows ++ row ∷ [])) (length (rows ++ row ∷ [])) 0
      → map placed_seen new.flight.items ≡ advanced n (row_seen n row) number (map placed_seen old.flight.items)
      → All (λ (p : code.Placed). p.stage < n) new.flight.items
      → ((k : ℕ) → k ≤ n - 1 → losses_shown new.losses k ≡ losses_after (bit_of word) (row_seen (n - 1 + 1) row) (losses_shown old.losses) k)
      → length new.losses ≡ 12 → IsWalked n ext (rows ++ row ∷ []) new
  walked-more word number ext old new some same walked seen stages counted moves within lost twelve =
      let stage : n - 1 + 1 ≡ n = omega (arith, some) in
      let number_is : number ≡ count_after n r (counts_from n (λ k. 0) rs (length rs)) 0 =
      counted ∙ ap₂ (λ (xs : List Row) (T : ℕ). counts n xs T 0) more long ∙ ap (λ (c : ℕ → ℕ). c 0) (counts-more n (λ k. 0) rs r) in
      record {
        seen = seen;
        stages = stages;
        flight = moves ∙ ap₂ (advanced n r) number_is walked.flight ∙ sym (ap (flights n (λ k. 0) first) more ∙ flights-more n (λ k. 0) first rs r);
        within = within;
        losses = λ k b. lost k (omega (arith, b))
            ∙ ap (λ (m : ℕ). losses_after (bit_of word) (row_seen m row) (losses_shown old.losses) k) stage
            ∙ after-alike (bit_of word) r (losses_shown old.losses) (losses_from ext 0 (λ j. Filling) rs) (n - 1) (λ j l. walked.losses j (omega (arith, l, some))) k (omega (arith, b))
            ∙ ap (λ (x : ℕ → Bool). losses_after x r (losses_from ext 0 (λ j. Filling) rs) k) (sym same ∙ ap ext here)
            ∙ ap (λ (f : ℕ → Loss). f k) (sym (ap (losses_from ext 0 (λ j. Filling)) more ∙ losses-more ext 0 (λ j. Filling) rs r));
        twelve = twelve;
      }

-- The numbers in stage 0, with that of one cycle more.
pub numbered-more : (n : ℕ) (all : List masks.Row) (row : masks.Row) (numbers : List ℕ) (from number : ℕ) → length all ≡ from + length numbers
    → ((T : ℕ) → T < length numbers → get_or numbers T 0 ≡ counts n (rows_seen n all) (from + T) 0) → number ≡ counts n (rows_seen n all) (length all) 0
    → (T : ℕ) → T < length numbers + 1 → get_or (numbers ++ number ∷ []) T 0 ≡ counts n (rows_seen n (all ++ row ∷ [])) (from + T) 0
numbered-more n all row numbers from number long old new T b =
    ⊎_elim
    (λ (low : T < length numbers). get_or_append_left numbers (number ∷ []) 0 T low ∙ old T low ∙ sym (front (omega (arith, low, long))))
    (λ (high : length numbers ≤ T).
    let here : length numbers ≡ T = omega (arith, b, high) in
    let at : length all ≡ from + T = omega (arith, long, here) in
    get_or_push numbers number 0 T here ∙ new ∙ ap (λ (U : ℕ). counts n (rows_seen n all) U 0) at ∙ sym (front (omega (arith, at))))
    (cases_lt T (length numbers))
  where
    front : from + T ≤ length all → counts n (rows_seen n (all ++ row ∷ [])) (from + T) 0 ≡ counts n (rows_seen n all) (from + T) 0
    front h =
        ap (λ (rs : List Row). counts n rs (from + T) 0) (seen_more n all row)
        ∙ ap (λ (c : ℕ → ℕ). c 0) (counts-front n (λ k. 0) (rows_seen n all) (row_seen n row ∷ []) (from + T) (omega (arith, h, seen_length n all)))

-- the rows of one cycle more
pub rows-then : (job : Job) (net : Net) (n : ℕ) (row : masks.Row) → row ≡ row_of net (input_at job n) (last_of net (inputs_to job n))
    → (run net (inputs_to job n)).rows ++ row ∷ [] ≡ (run net (inputs_to job (n + 1))).rows
rows-then job net n row is =
    let next : suc n ≡ n + 1 = omega arith in
    ap (λ (r : masks.Row). (run net (inputs_to job n)).rows ++ r ∷ []) is
    ∙ sym (rows_more net (start_of net) (inputs_to job n) (input_at job n))
    ∙ ap (λ (m : ℕ). (run net (inputs_to job m)).rows) next
