-- One cycle of a run.
use Rattle.std.proofs.Common.{◌≡◌, ◌∙◌, ℕ, zero, suc, ◌+◌, ◌-◌, ◌<◌, ◌≤◌, List, [], ◌∷◌, ◌++◌, drop, take, length, get_or, refl, ap, sym, subst, arith}
use Rattle.std.proofs.lemmas.List.{get_or-map, get_or_default, length-map, length-take-le, take_more}
use Rattle.kp_base.specs.declared.row.Row as masks
use Rattle.kp_ast.specs.declared.tree.Job.{Job}
use Rattle.kp_pipeline.{specs.Rows.Row, specs.Rows.count_after, specs.Rows.counts, proofs.Counts.counts-bound}
use Rattle.kp_sched.specs.{Monitors.Kept, Monitors.HasSeen, Rows.bit_of, Rows.row_seen, Rows.rows_seen}
use Rattle.kp_sites.specs.Sites.{sited}
use Rattle.kp_stalls.specs.declared.{cause.Line.Line, fate.Fate.Fate, fate.Fate.TheVariants.Open}
use Rattle.kp_stalls.specs.{Occupants.Seen, Occupants.occupants_of, Occupants.report, Occupants.stored, Causes.lines_down}
use Rattle.kp_stalls.specs.{Cycles.fate_in, Cycles.lines_from, Cycles.stage_of, Cycles.stages_from, Windows.Windowed, Windows.Follows}
use Rattle.kp_stalls_run.specs.{Runs.settled, inner.Running.StaysClose, inner.Running.stage_now}
use Rattle.kp_stalls_run.proofs.{Closeness.counts_first_rows, Closeness.counts_next_row, Steps.occupants_shown, Steps.cycle_more, Steps.rows_at}

-- THE NUMBERS that a monitor has after the first T rows.
first_seen : (n : ℕ) (rows : List masks.Row) (T : ℕ) → rows_seen n (take T rows) ≡ take T (rows_seen n rows)
first_seen n rows zero = refl
first_seen n [] (suc T) = refl
first_seen n (r ∷ rows) (suc T) = ap (λ rs. row_seen n r ∷ rs) (first_seen n rows T)

pub numbers_are : (n : ℕ) (rows : List masks.Row) (T : ℕ) (m : Kept) → m.stages ≡ n → HasSeen m (take T rows) → T ≤ length rows
    → (k : ℕ) → k < n → get_or m.counts k 0 ≡ counts n (rows_seen n rows) T k
numbers_are n rows T m same seen b k l =
    let many : length (take T rows) ≡ T = length-take-le T rows b in
    seen.counts k (omega (arith, l, same))
    ∙ (λ i. counts (same i) (rows_seen (same i) (take T rows)) (many i) k)
    ∙ ap (λ rs. counts n rs T k) (first_seen n rows T)
    ∙ ap (λ (f : ℕ → ℕ). f k) (counts_first_rows n (rows_seen n rows) T (let e = length-map rows (row_seen n) in omega (arith, b, e)))

pub numbers_small : (n : ℕ) (rows : List masks.Row) (T : ℕ) (m : Kept) → m.stages ≡ n → HasSeen m (take T rows) → T ≤ length rows
    → (k : ℕ) → k < n → get_or m.counts k 0 ≤ T
numbers_small n rows T m same seen b k l =
    let is = numbers_are n rows T m same seen b k l in
    let bound = counts-bound n (rows_seen n rows) T k in
    omega (arith, is, bound)

pub seen_more : (m : Kept) (rows : List masks.Row) (T : ℕ) (d : masks.Row) → T < length rows → HasSeen m (take T rows ++ get_or rows T d ∷ []) → HasSeen m (take (T + 1) rows)
seen_more m rows T d b h = subst (HasSeen m) (sym (take_more rows T d b)) h

-- THE NUMBER of the instruction that the window runs next stays close.
pub next_close : (n : ℕ) (rows : List Row) → StaysClose n rows → (T next : ℕ) → next ≤ counts n rows T (n - 1) + n → next ≤ counts n rows (T + 1) (n - 1) + n
next_close n rows close T next l =
    let one : T + 1 ≡ suc T = omega arith in
    let more : counts n rows T (n - 1) ≤ counts n rows (T + 1) (n - 1) = rw one (close.more T) in
    omega (arith, more, l)

module _ (job : Job) (given : ℕ → ℕ → ℕ) (rows : List masks.Row) (words : List ℕ) (fates : List (List Fate)) where
  abbrev n : ℕ
  n = job.stages.value

  abbrev seen : List Row
  seen = rows_seen n rows

  abbrev after_cycle : ℕ → List Line
  after_cycle T =
      lines_from (sited job) (λ U. bit_of (get_or words U 0)) (settled job given) (report job given) T (counts n seen T) (rows_seen n (drop T rows))

  module _ (T : ℕ) (d : masks.Row) (df : List Fate) (dw : ℕ) (b : T < length rows) (close : StaysClose n seen) (few : n ≤ 12)
      (many_fates : length fates ≡ length rows) (many_words : length words ≡ length rows)
      (fated : (U k : ℕ) → U < length rows → k < n → get_or (get_or fates U []) k Open ≡ fate_in n (rows_seen n (drop U rows)) k)
      (w : Windowed) (sites : w.sites ≡ sited job) (follows : Follows job given w)
      (least : counts n seen T 0 < w.next) (most : w.next ≤ counts n seen T (n - 1) + n)
      (numbers : List ℕ) (counted : (k : ℕ) → k < n → get_or numbers k 0 ≡ counts n seen T k) where
    abbrev r : masks.Row
    r = get_or rows T d

    abbrev rest : List Row
    rest = rows_seen n (drop (T + 1) rows)

    here : rows_seen n (drop T rows) ≡ row_seen n r ∷ rest
    here = rows_at n rows T d b

    next_counts : counts n seen (T + 1) ≡ count_after n (row_seen n r) (counts n seen T)
    next_counts =
        let one : T + 1 ≡ suc T = omega arith in
        ap (counts n seen) one
        ∙ counts_next_row n seen T (row_seen n d) (let e = length-map rows (row_seen n) in omega (arith, b, e))
        ∙ ap (λ x. count_after n x (counts n seen T)) (get_or-map (row_seen n) rows T d (row_seen n d) b)

    fates_now : (k : ℕ) → k < n → get_or (get_or fates T df) k Open ≡ fate_in n (row_seen n r ∷ rest) k
    fates_now k l =
        ap (λ fs. get_or fs k Open) (get_or_default fates T df [] (omega (arith, b, many_fates)))
        ∙ fated T k b l ∙ ap (λ rs. fate_in n rs k) here

    known : (k : ℕ) → k < n → stored w.ring (counts n seen T k) ≡ report job given (counts n seen T k)
    known k l =
        let low = close.least T k l in
        let high = close.greatest T k l in
        follows.report (counts n seen T k) (omega (arith, high, least)) (omega (arith, most, low, few))

    abbrev shown : List Seen
    shown = occupants_of (stored w.ring) (stages_from (stage_now (get_or words T dw) (settled job given T) numbers (get_or fates T df) r) n 0)

    occupants_are : shown ≡ occupants_of (report job given) (stages_from (stage_of n (bit_of (get_or words T 0)) (settled job given T) (counts n seen T) (row_seen n r) rest) n 0)
    occupants_are =
        occupants_shown n (get_or words T dw) (settled job given T) numbers (get_or fates T df) r rest (counts n seen T) counted fates_now (stored w.ring) (report job given) known
        ∙ ap (λ (x : ℕ). occupants_of (report job given) (stages_from (stage_of n (bit_of x) (settled job given T) (counts n seen T) (row_seen n r) rest) n 0))
        (get_or_default words T dw 0 (omega (arith, b, many_words)))

    pub one_cycle : (m : ℕ) → m ≡ n → (before after all : List Line)
        → after ≡ before ++ lines_down w.sites T (occupants_of (stored w.ring) (stages_from (stage_now (get_or words T dw) (settled job given T) numbers (get_or fates T df) r) m 0)) w.sites.stages
        → before ++ after_cycle T ≡ all → after ++ after_cycle (T + 1) ≡ all
    one_cycle m same before after all added is =
        cycle_more (sited job) (λ U. bit_of (get_or words U 0)) (settled job given) (report job given) T (counts n seen T) (counts n seen (T + 1)) (row_seen n r) rest shown before after all
        next_counts
        (added ∙ (λ i. before ++ lines_down (sites i) T (occupants_of (stored w.ring) (stages_from (stage_now (get_or words T dw) (settled job given T) numbers (get_or fates T df) r) (same i) 0)) (sites i).stages))
        occupants_are
        (ap (λ rs. before ++ lines_from (sited job) (λ U. bit_of (get_or words U 0)) (settled job given) (report job given) T (counts n seen T) rs) (sym here) ∙ is)
