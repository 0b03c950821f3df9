-- The figure of a window is that of the job.
use Rattle.std.proofs.Common.{◌≡◌, ◌∙◌, ℕ, ◌+◌, ◌-◌, ◌<◌, ◌≤◌, Bool, false, List, ◌++◌, length, get_or, map, refl, ap, ap₂, sym, arith, length-append}
use Rattle.std.proofs.{Math.Path.fun_ext, lemmas.List.map-append}
use Rattle.kp_base.specs.declared.row.Row as masks
use Rattle.kp_ast.specs.declared.tree.Job.{Job}
use Rattle.kp_stage.specs.Start.{stall_word}
use Rattle.kp_pipeline.specs.Rows.{Row, counts}
use Rattle.kp_diagram.specs.Diagram.{Account, Fetch, Filling, Loss, account, account_from, diagram}
use Rattle.kp_diagram.specs.Flights.{carried, entering, flights, losses_from}
use Rattle.kp_diagram.specs.{Claims.stalls_of, Windows.minus, Windows.window}
use Rattle.kp_diagram.proofs.Windows.{account-windowed, windowed}
use Rattle.kp_machine.specs.Machine.{inputs_from}
use Rattle.kp_sched.specs.Rows.{bit_of, row_seen, rows_seen}
use Rattle.kp_sched.proofs.Counting.{seen_length}
use Rattle.kp_implements.specs.Traces.{inputs_seen}
use Rattle.kp_run.specs.Cycles.{inputs_to}
use Rattle.kp_diagram_text.specs.{Figures.Figure, Losses.losses_shown, Windows.placed_seen, declared.account.Loss.Loss as LossCode, declared.window.Placed.Placed}
use Rattle.kp_diagram_text.proofs.Accounts.{nothing, onto, onto-account, spent-alike}
use Rattle.kp_diagram_run.specs.{Figures.job_rows, Windows.IsWindowOf, Windows.first, Windows.job_window, declared.window.JobWindow.JobWindow}
use Rattle.kp_diagram_run.proofs.{Alike.SameFrom, Alike.account-same, Alike.carried-same, Alike.entering-same, Alike.losses-same, Figures.ext_in, Figures.from-zero, Words.words-seen}

account-alike : (last : ℕ) (ext : ℕ → ℕ → Bool) (f g : ℕ → Loss) (rows : List Row) → ((j : ℕ) → j ≤ last → f j ≡ g j)
    → account_from last ext 0 f rows ≡ account_from last ext 0 g rows
account-alike last ext f g rows h =
    sym (onto-account last ext 0 f rows) ∙ ap (λ os. onto os nothing) (spent-alike last ext 0 f g rows h) ∙ onto-account last ext 0 g rows

module _ (job : Job) (from n : ℕ) (w : JobWindow) (is : IsWindowOf job from n w)
    (seen : (m : ℕ) → inputs_seen job (inputs_to job m) ≡ inputs_from job 0 m) where
  abbrev s : ℕ
  s = job.stages.value

  abbrev before : List Row
  before = rows_seen s is.before

  abbrev rows : List Row
  rows = rows_seen s w.rows.items

  -- the stalls of all cycles, and those of the cycles before
  abbrev ext : ℕ → ℕ → Bool
  ext = stalls_of (inputs_from job 0 (from + n))

  abbrev later : ℕ → ℕ → Bool
  later u = ext (from + u)

  long : length before ≡ from
  long = seen_length s is.before ∙ is.long

  many : length rows ≡ n
  many = seen_length s w.rows.items ∙ is.count

  all : before ++ rows ≡ job_rows (from + n) job
  all = sym (map-append (row_seen s) is.before w.rows.items) ∙ is.all

  stall : (m T : ℕ) → T < m → (λ k. bit_of (stall_word job T) k) ≡ stalls_of (inputs_from job 0 m) T
  stall m T b = fun_ext (λ k. words-seen job m T k (seen m) b)

  listed : SameFrom (ext_in w.words.items) later 0 (length rows)
  listed = from-zero (ext_in w.words.items) later (length rows)
      (λ T b. fun_ext (λ k. ap (λ (v : ℕ). bit_of v k) (is.words T (omega (arith, b, many)))) ∙ stall (from + n) (from + T) (omega (arith, b, many)))

  pub lines-are : 1 ≤ n
      → carried s (ext_in w.words.items) 0 rows (map placed_seen w.flight.items) ++ entering s (ext_in w.words.items) 0 (λ T. get_or w.numbers.items T 0) false rows
      ≡ window from (diagram s ext (job_rows (from + n) job))
  lines-are some =
      ap₂ (λ (a b : List Fetch). a ++ b)
      (carried-same (ext_in w.words.items) later s rows (map placed_seen w.flight.items) listed
      ∙ ap (carried s later 0 rows) is.flight)
      (entering-same (ext_in w.words.items) later s 0 (λ T. get_or w.numbers.items T 0) false rows listed)
      ∙ sym (windowed s ext from before rows (λ T. get_or w.numbers.items T 0) long (omega (arith, some, many))
      (λ u b. is.numbers u (omega (arith, b, many)) ∙ ap (λ (rs : List Row). counts s rs (from + u) 0) (map-append (row_seen s) is.before w.rows.items)))
      ∙ ap (λ (rs : List Row). window from (diagram s ext rs)) all

  earlier : account (s - 1) (stalls_of (inputs_from job 0 from)) (job_rows from job) ≡ account (s - 1) ext before
  earlier =
      ap (account (s - 1) (stalls_of (inputs_from job 0 from))) (sym is.early)
      ∙ account-same (stalls_of (inputs_from job 0 from)) ext (s - 1) 0 (λ j. Filling) before
      (from-zero (stalls_of (inputs_from job 0 from)) ext (length before)
      (λ T b. sym (stall from T (omega (arith, b, long))) ∙ stall (from + n) T (omega (arith, b, long))))

  pub account-is : 1 ≤ s → account_from (s - 1) (ext_in w.words.items) 0 (losses_shown w.losses) rows
      ≡ minus (account (s - 1) ext (job_rows (from + n) job)) (account (s - 1) (stalls_of (inputs_from job 0 from)) (job_rows from job))
  account-is some =
      account-same (ext_in w.words.items) later (s - 1) 0 (losses_shown w.losses) rows listed
      ∙ account-alike (s - 1) later (losses_shown w.losses) (losses_from ext 0 (λ j. Filling) before) rows
      (λ j b. is.losses j (omega (arith, b, some))
      ∙ ap (λ (f : ℕ → Loss). f j) (losses-same (λ T k. bit_of (stall_word job T) k) ext 0 (λ j. Filling) before
      (from-zero (λ T k. bit_of (stall_word job T) k) ext (length before) (λ T b. stall (from + n) T (omega (arith, b, long))))))
      ∙ sym (account-windowed (s - 1) ext from before rows long)
      ∙ ap₂ minus (ap (account (s - 1) ext) all) (sym earlier)

  -- what is drawn of a window
  abbrev pub drawn : List ℕ → List (List ℕ) → ℕ → List masks.Row → List ℕ → List ℕ → List Placed → List LossCode → Figure
  drawn name names stages given words numbers flight losses = record {
    name = name;
    names = names;
    stages = stages;
    cycles = length (rows_seen stages given);
    fetches = carried stages (ext_in words) 0 (rows_seen stages given) (map placed_seen flight)
        ++ entering stages (ext_in words) 0 (λ T. get_or numbers T 0) false (rows_seen stages given);
    account = account_from (stages - 1) (ext_in words) 0 (losses_shown losses) (rows_seen stages given);
  }

  pub figure-is : (names : List (List ℕ)) → 1 ≤ s → 1 ≤ n
      → drawn job.name.name names s w.rows.items w.words.items w.numbers.items w.flight.items w.losses ≡ job_window names from n job
  figure-is names stages some = λ i. record {
    name = job.name.name;
    names = names;
    stages = s;
    cycles = cycles_are i;
    fetches = lines-are some i;
    account = account-is stages i;
  }
    where
      cycles_are : length rows ≡ length (job_rows (from + n) job) - from
      cycles_are =
          let both : length (before ++ rows) ≡ length (job_rows (from + n) job) = ap (λ (rs : List Row). length rs) all in
          let sum = length-append before rows in
          omega (arith, both, sum, long)
