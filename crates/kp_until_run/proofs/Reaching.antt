-- How many instructions retire in the cycles of a run.
use Rattle.std.proofs.Common.{◌≡◌, ◌∙◌, ℕ, zero, suc, ◌+◌, ◌-◌, ◌≤◌, List, [], ◌∷◌, ◌++◌, length, Bool, true, false, None, refl, ap, sym, arith}
use Rattle.kp_base.specs.First.{first}
use Rattle.kp_width.specs.Widths.{widths_of}
use Rattle.kp_image.specs.Sections.{sections_of}
use Rattle.kp_pipeline.specs.Pipeline.{Inputs}
use Rattle.kp_implements.specs.{Shows.Shows, Traces.trace_of}
use Rattle.kp_run.proofs.Inputs.{seen_to, quiet_to}
use Rattle.kp_base.specs.declared.row.Row.{Row}
use Rattle.kp_ast.specs.declared.tree.Job.{Job}
use Rattle.kp_pipeline.{specs.Rows.passed, specs.Rows.one_if, specs.Rows.bit, specs.Rows.bits, proofs.Counts.passed-more, proofs.Counts.passed-bound}
use Rattle.kp_pipeline.specs.Rows as law
use Rattle.kp_machine.specs.Machine.{pipe_of}
use Rattle.kp_net.specs.Netlist.{Net, run, start_of, row_of, last_of}
use Rattle.kp_net.proofs.Runs.{rows_more}
use Rattle.kp_sched.{specs.Monitors.Kept, specs.Monitors.HasSeen, specs.Rows.rows_seen, specs.Rows.row_seen, proofs.Counting.seen_length, proofs.Counting.seen_more}
use Rattle.kp_run.{specs.Cycles.inputs_to, specs.Cycles.input_at, specs.Cycles.HasRows, proofs.Prefixes.rows_many}
use Rattle.kp_sched.specs.Rows.{bit_of}
use Rattle.kp_until_run.specs.{Ending.own_rows, Ending.retired_in, inner.Pasts.Updates, inner.Pasts.updates_in}
use Rattle.kp_run.specs.Homes.{home_of}
use Rattle.std.specs.Prelude.{nat_lt, if◌then◌else◌}

abbrev pub net_rows : Job → Net → ℕ → List Row
net_rows job net n = (run net (inputs_to job n)).rows

-- the rows of the netlist are those of the pipelined machine
abbrev pub Agree : Job → Net → Type 0
Agree job net = (n : ℕ) → rows_seen job.stages.value (net_rows job net n) ≡ own_rows job n

first_passed : (xs ys : List law.Row) (k T : ℕ) → T ≤ length xs → passed (xs ++ ys) k T ≡ passed xs k T
first_passed xs ys k zero h = refl
first_passed [] ys k (suc T) h = absurd (omega (arith, h))
first_passed (x ∷ xs) ys k (suc T) h = ap (λ (m : ℕ). one_if (bit x.ue k) + m) (first_passed xs ys k T (omega (arith, h)))

module _ (job : Job) (net : Net) (agree : Agree job net) where
  -- what a monitor counts
  pub counted : (n passes last : ℕ) (monitor : Kept) → last ≡ job.stages.value - 1 → HasRows job net n (net_rows job net n) monitor
      → ((rows : List Row) → HasSeen monitor rows → passes ≡ passed (rows_seen monitor.stages rows) last (length rows)) → passes ≡ retired_in job n
  counted n passes last monitor is has counts =
      counts (net_rows job net n) has.seen
      ∙ ap (λ (k : ℕ). passed (rows_seen monitor.stages (net_rows job net n)) k (length (net_rows job net n))) is
      ∙ ap (λ (s : ℕ). passed (rows_seen s (net_rows job net n)) (job.stages.value - 1) (length (net_rows job net n))) has.stages
      ∙ ap (λ (rows : List law.Row). passed rows (job.stages.value - 1) (length (net_rows job net n))) (agree n)
      ∙ ap (passed (own_rows job n) (job.stages.value - 1)) (rows_many job net n)

  longer : (n : ℕ) → own_rows job (suc n) ≡ own_rows job n ++ row_seen job.stages.value (row_of net (input_at job n) (last_of net (inputs_to job n))) ∷ []
  longer n =
      sym (agree (suc n))
      ∙ ap (rows_seen job.stages.value) (rows_more net (start_of net) (inputs_to job n) (input_at job n))
      ∙ seen_more job.stages.value (net_rows job net n) (row_of net (input_at job n) (last_of net (inputs_to job n)))
      ∙ ap (λ (rows : List law.Row). rows ++ row_seen job.stages.value (row_of net (input_at job n) (last_of net (inputs_to job n))) ∷ []) (agree n)

  pub many : (n : ℕ) → length (own_rows job n) ≡ n
  many n = ap (λ (rows : List law.Row). length rows) (sym (agree n)) ∙ seen_length job.stages.value (net_rows job net n) ∙ rows_many job net n

  at_most_one : (b : Bool) → one_if b ≤ 1
  at_most_one true = omega arith
  at_most_one false = omega arith

  -- one row more updates these stages
  pub grown : (n k : ℕ) (r : law.Row) → own_rows job (suc n) ≡ own_rows job n ++ r ∷ []
      → passed (own_rows job (n + 1)) k (n + 1) ≡ passed (own_rows job n) k n + one_if (bit r.ue k)
  grown n k r is =
      ap (λ (m : ℕ). passed (own_rows job m) k m) (let s : n + 1 ≡ suc n = omega arith in s)
      ∙ ap (λ (rows : List law.Row). passed rows k (suc n)) is
      ∙ ap (λ (m : ℕ). passed (own_rows job n ++ r ∷ []) k (suc m)) (sym (many n))
      ∙ passed-more (own_rows job n) r k
      ∙ ap (λ (m : ℕ). passed (own_rows job n) k m + one_if (bit r.ue k)) (many n)

  pub updated : (n ue : ℕ) → ue ≡ (row_of net (input_at job n) (last_of net (inputs_to job n))).ue → Updates job n ue
  updated n ue is k h =
      grown n k (row_seen job.stages.value (row_of net (input_at job n) (last_of net (inputs_to job n)))) (longer n)
      ∙ ap (λ (u : ℕ). passed (own_rows job n) k n + one_if (bit (bits (bit_of u) job.stages.value 0) k)) (sym is)

  -- a longer run has the same first rows
  pub earlier : (k n d : ℕ) → passed (own_rows job (n + d)) k n ≡ passed (own_rows job n) k n
  earlier k n zero = ap (λ (m : ℕ). passed (own_rows job m) k n) (let e : n + 0 ≡ n = omega arith in e)
  earlier k n (suc d) =
      ap (λ (m : ℕ). passed (own_rows job m) k n) (let e : n + suc d ≡ suc (n + d) = omega arith in e)
      ∙ ap (λ (rows : List law.Row). passed rows k n) (longer (n + d))
      ∙ first_passed (own_rows job (n + d)) _ k n (let m = many (n + d) in omega (arith, m))
      ∙ earlier k n d

  -- at most one retires in a cycle
  pub one_at_most : (n : ℕ) → retired_in job (n + 1) ≤ retired_in job n + 1
  one_at_most n =
      let r = row_seen job.stages.value (row_of net (input_at job n) (last_of net (inputs_to job n))) in
      let e = grown n (job.stages.value - 1) r (longer n) in
      let b = at_most_one (bit r.ue (job.stages.value - 1)) in omega (arith, e, b)

  pub no_fewer : (n : ℕ) → retired_in job n ≤ retired_in job (n + 1)
  no_fewer n =
      let r = row_seen job.stages.value (row_of net (input_at job n) (last_of net (inputs_to job n))) in
      let e = grown n (job.stages.value - 1) r (longer n) in omega (arith, e)

  pub none_at_first : retired_in job 0 ≡ 0
  none_at_first = let b = passed-bound (own_rows job 0) (job.stages.value - 1) 0 in omega (arith, b)

  more_by : (n d : ℕ) → retired_in job n ≤ retired_in job (n + d)
  more_by n zero = let f = ap (retired_in job) (let e : n + 0 ≡ n = omega arith in e) in omega (arith, f)
  more_by n (suc d) =
      let f = ap (retired_in job) (let e : n + suc d ≡ (n + d) + 1 = omega arith in e) in
      let b = no_fewer (n + d) in
      let c = more_by n d in omega (arith, f, b, c)

  -- no fewer retire in more cycles
  pub more_later : (n m : ℕ) → n ≤ m → retired_in job n ≤ retired_in job m
  more_later n m h =
      let f = ap (retired_in job) (let e : n + (m - n) ≡ m = omega (arith, h) in e) in
      let b = more_by n (m - n) in omega (arith, f, b)

-- the netlist implements the machine of the job
pub agrees : (job : Job) (net : Net) → first (widths_of job).asked ≡ None → first (sections_of job).asked ≡ None → Shows net job → Agree job net
unfolding trace_of
agrees job net names unbroken shows n =
    (shows.runs (inputs_to job n) (quiet_to job n)).rows ∙ ap (λ (ins : List Inputs). (pipe_of job ins).rows) (seen_to job names unbroken n)

pub few_retire : (job : Job) (n : ℕ) → retired_in job n ≤ n
few_retire job n = passed-bound (own_rows job n) (job.stages.value - 1) n

-- no target is updated more often than there are cycles
pub few_updates : (job : Job) (n t : ℕ) → updates_in job n t ≤ n
few_updates job n t = go (nat_lt (home_of job t) job.stages.value)
  where
    go : (b : Bool) → (if b then passed (own_rows job n) (home_of job t) n else 0) ≤ n
    go true = passed-bound (own_rows job n) (home_of job t) n
    go false = omega arith
