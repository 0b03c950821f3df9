-- The machines after a run, and which of them has the value of a target.
use Rattle.std.proofs.Common.{◌≡◌, ◌∙◌, ℕ, zero, suc, ◌+◌, ◌<◌, ◌≤◌, List, [], ◌∷◌, ◌++◌, length, get_or, Bool, true, false, Option, Some, None, refl, ap, sym, arith, below_more}
use Rattle.std.proofs.lemmas.{Bool.ltb-true, Bool.ltb-false, Bool.lt-ltb, Bool.le-ltb, List.get_or_append_left, List.get_or_push}
use Rattle.std.specs.{Prelude.is_some, Prelude.nat_lt, Prelude.if◌then◌else◌, List.All}
use Rattle.kp_base.specs.declared.row.Row.{Row}
use Rattle.kp_bits.specs.Word.{Word}
use Rattle.kp_ast.specs.declared.tree.{Job.Job, ResultDecl.ResultDecl}
use Rattle.kp_stage.{specs.Facts.facts_of, specs.Start.start_of, specs.Stages.broken_of, proofs.Unbroken.stages_kept, proofs.Kept.rules_kept}
use Rattle.kp_machine.specs.Machine.{machine_of, result_for, state_of, sequential, values_in, write_stage_of}
use Rattle.kp_machine.specs.Slots.{targets_of}
use Rattle.kp_design.specs.{declared.layout.Port.Port, Fits.port_at, Fits.port_for, Fits.Fits, Fits.ResultFits}
use Rattle.kp_pipeline.specs.{Accepted.Accepted, Sequential.exec, Sequential.seq, Rows.passed}
use Rattle.kp_pipeline.specs.Rows as law
use Rattle.kp_sched.{specs.Monitors.Kept, specs.Monitors.HasSeen, specs.Rows.rows_seen, specs.Runs.passes, proofs.Counting.seen_length}
use Rattle.kp_seq.specs.Running.{Running, state}
use Rattle.kp_run.specs.Homes.{home_of}
use Rattle.kp_run.specs.inner.{Lanes.lane_state, Lanes.passes_after, Lanes.lane_passes, Lanes.lane_count, Lanes.HaveRun, Lanes.HaveRunFrom, Homes.home_by}

abbrev State : Type 0
State = ℕ → ℕ → ℕ

-- ---- the number of stages

pub stages_fit : (job : Job) → broken_of job ≡ None → (2 ≤ job.stages.value) × (job.stages.value ≤ 12)
stages_fit job e =
    let all = stages_kept (facts_of job) job (rules_kept job e) in
    (all.0, all.1)

-- ---- which machine has the value of a target

pub home_is : (job : Job) (t : ℕ) → home_by (port_at job t) job.stages.value ≡ home_of job t
unfolding home_of machine_of
home_is job t = go (result_for job t)
  where
    go : (r : Option ResultDecl) → home_by (port_for job t r) job.stages.value ≡ (if is_some r then write_stage_of r else job.stages.value)
    go None = refl
    go (Some r) = refl

pub home_small : (job : Job) (t : ℕ) (port : Option Port) → Fits job → port ≡ port_at job t → ResultFits job t port → home_by port job.stages.value ≤ 12
home_small job t None fits e h = fits.at_most
home_small job t (Some p) fits e h = let few = fits.at_most in let early = h.0 in omega (arith, few, early)

home_within : (n w : ℕ) (has : Bool) → (has ≡ true → w < n) → (if has then w else n) ≤ n
home_within n w true h = let e : w < n = h refl in omega (arith, e)
home_within n w false h = omega arith

pub homes_within : (job : Job) → Accepted (machine_of job) → (t : ℕ) → home_of job t ≤ job.stages.value
unfolding home_of machine_of
homes_within job acc t = home_within job.stages.value (write_stage_of (result_for job t)) (is_some (result_for job t)) (acc.writes t)

pub homes_more : (job : Job) (homes : List ℕ) (t home : ℕ) → length homes ≡ t → ((j : ℕ) → j < t → get_or homes j 0 ≡ home_of job j) → home ≡ home_of job t
    → (j : ℕ) → j < t + 1 → get_or (homes ++ home ∷ []) j 0 ≡ home_of job j
homes_more job homes t home many kept last =
    below_more (λ (j : ℕ). get_or (homes ++ home ∷ []) j 0 ≡ home_of job j) t (λ j h. get_or_append_left homes (home ∷ []) 0 j (omega (arith, h, many)) ∙ kept j h) (get_or_push homes home 0 t many ∙ last)

-- ---- one machine

-- the run in which instruction j reads this input vector
abbrev run : Job → State → (ℕ → List Word) → ℕ → State
run job s rows i = seq (machine_of job) s (λ j. values_in (rows j)) i

pub next_is : (job : Job) (s : State) (given : ℕ → ℕ → ℕ) (i : ℕ) → exec (machine_of job) (seq (machine_of job) s given i) (given i) ≡ seq (machine_of job) s given (suc i)
unfolding seq
next_is job s given i = refl

pub one_step : (job now : Job) (s : State) (rows : ℕ → List Word) (i : ℕ) (before after : State) (row : List Word) → now ≡ job → before ≡ run job s rows i → row ≡ rows i
    → after ≡ exec (machine_of now) before (values_in row) → after ≡ run job s rows (i + 1)
one_step job now s rows i before after row same is this stepped =
    let e : suc i ≡ i + 1 = omega arith in
    stepped
    ∙ (λ j. exec (machine_of (same j)) (is j) (values_in (this j)))
    ∙ next_is job s (λ j. values_in (rows j)) i
    ∙ ap (run job s rows) e

-- an opened machine is at the start of the run
pub opened_is : (job : Job) (given : ℕ → ℕ → ℕ) → state_of job (start_of job) ≡ sequential job given 0
unfolding seq
opened_is job given = refl

-- a machine of the job that continued from there is further on in the same run
pub ran_on : (job now : Job) (given : ℕ → ℕ → ℕ) (from to : ℕ) (before after : State) → now ≡ job → before ≡ sequential job given from
    → ((s : State) → before ≡ seq (machine_of now) s given from → after ≡ seq (machine_of now) s given to) → after ≡ sequential job given to
ran_on job now given from to before after same at run =
    let s = state_of job (start_of job) in
    run s (at ∙ sym (ap (λ (j : Job). seq (machine_of j) s given from) same)) ∙ ap (λ (j : Job). seq (machine_of j) s given to) same

-- ---- the machines of all stages

pub lane_at : (ms : List Running) (k : ℕ) (d : Running) → k < length ms → lane_state ms k ≡ state (get_or ms k d)
lane_at [] k d h = absurd (omega arith)
lane_at (m ∷ ms) zero d h = refl
lane_at (m ∷ ms) (suc k) d h = lane_at ms k d (omega arith)

module _ (job : Job) (given : ℕ → ℕ → ℕ) where
  -- the machine that has executed nothing comes after those of all stages
  pub none_counted : (counts : List ℕ) (n : ℕ) → n ≡ job.stages.value → 0 ≡ lane_count job.stages.value counts n
  none_counted counts n is = let last : job.stages.value ≤ n = omega (arith, is) in rw (le-ltb n job.stages.value last) refl

  pub lanes_begin : (counts : List ℕ) (n : ℕ) (m : Running) → n ≡ job.stages.value → m.job ≡ job → state m ≡ sequential job given 0
      → HaveRunFrom job given counts n (m ∷ [])
  lanes_begin counts n m is same at = record { count = omega (arith, is); jobs = one_job; states = none_run }
    where
      one_job : All (λ x. x.job ≡ job) (m ∷ [])
      one_job zero d h = same
      one_job (suc i) d h = absurd (omega (arith, h))

      none_run : (j : ℕ) → j < 1 → lane_state (m ∷ []) j ≡ sequential job given (lane_count job.stages.value counts (j + n))
      none_run zero h =
          let e : n ≡ 0 + n = omega arith in
          at ∙ ap (sequential job given) (none_counted counts n is) ∙ ap (λ (i : ℕ). sequential job given (lane_count job.stages.value counts i)) e
      none_run (suc j) h = absurd (omega (arith, h))

  -- and the machine of a stage before those of the later stages
  pub stage_counted : (counts : List ℕ) (k ran : ℕ) → k < job.stages.value → ran ≡ get_or counts k 0 → ran ≡ lane_count job.stages.value counts k
  stage_counted counts k ran below is = rw (lt-ltb k job.stages.value below) is

  pub lanes_before : (counts : List ℕ) (k next ran : ℕ) (m : Running) (ms : List Running) → next ≡ k + 1 → k < job.stages.value → ran ≡ get_or counts k 0
      → m.job ≡ job → state m ≡ sequential job given ran → HaveRunFrom job given counts next ms → HaveRunFrom job given counts k (m ∷ ms)
  lanes_before counts k next ran m ms is below counted same at behind = record { count = omega (arith, is, behind.count); jobs = all_jobs; states = all_run }
    where
      all_jobs : All (λ x. x.job ≡ job) (m ∷ ms)
      all_jobs zero d h = same
      all_jobs (suc i) d h = behind.jobs i d (omega (arith, h))

      all_run : (j : ℕ) → j < suc (length ms) → lane_state (m ∷ ms) j ≡ sequential job given (lane_count job.stages.value counts (j + k))
      all_run zero h =
          let e : k ≡ 0 + k = omega arith in
          at ∙ ap (sequential job given) (stage_counted counts k ran below counted) ∙ ap (λ (i : ℕ). sequential job given (lane_count job.stages.value counts i)) e
      all_run (suc j) h =
          let e : j + next ≡ suc j + k = omega (arith, is) in
          behind.states j (omega (arith, h)) ∙ ap (λ (i : ℕ). sequential job given (lane_count job.stages.value counts i)) e

  -- the first of them
  pub first_runs : (counts : List ℕ) (k ran : ℕ) (m : Running) (ms : List Running) → k ≤ job.stages.value → HaveRunFrom job given counts k ms
      → ran ≡ lane_count job.stages.value counts k → m ≡ get_or ms 0 m → (m.job ≡ job) × (state m ≡ sequential job given ran)
  first_runs counts k ran m ms below behind is this =
      let some : 0 < length ms = omega (arith, behind.count, below) in
      let e : 0 + k ≡ k = omega arith in (
        ap (λ (x : Running). x.job) this ∙ behind.jobs 0 m some,
        ap state this ∙ sym (lane_at ms 0 m some) ∙ behind.states 0 some
            ∙ ap (λ (i : ℕ). sequential job given (lane_count job.stages.value counts i)) e
            ∙ ap (sequential job given) (sym is),
      )

  pub have_run : (rows : List Row) (kept : Kept) (ms : List Running) → kept.stages ≡ job.stages.value → HasSeen kept rows
      → HaveRunFrom job given kept.passed 0 ms → HaveRun job given (rows_seen job.stages.value rows) ms
  have_run rows kept ms stages seen behind =
      record {
        count = omega (arith, behind.count);
        jobs = λ i d h. ap (λ (j : Job). targets_of j.decls) (behind.jobs i d h);
        states = λ k h. states_at k h;
      }
    where
      passes_are : (k : ℕ) (b : Bool) → nat_lt k job.stages.value ≡ b
          → (if b then get_or kept.passed k 0 else 0) ≡ (if b then passed (rows_seen job.stages.value rows) k (length (rows_seen job.stages.value rows)) else 0)
      passes_are k false e = refl
      passes_are k true e =
          let here : k < job.stages.value = ltb-true k job.stages.value e in
          let below : k < kept.stages = omega (arith, here, stages) in
          seen.passed k below
          ∙ ap (λ (n : ℕ). passed (rows_seen n rows) k (length rows)) stages
          ∙ ap (passed (rows_seen job.stages.value rows) k) (sym (seen_length job.stages.value rows))

      states_at : (k : ℕ) → k ≤ job.stages.value → lane_state ms k ≡ sequential job given (lane_passes job (rows_seen job.stages.value rows) k)
      states_at k h =
          let none : k + 0 ≡ k = omega arith in
          behind.states k (omega (arith, h, behind.count))
          ∙ ap (λ (i : ℕ). sequential job given (lane_count job.stages.value kept.passed i)) none
          ∙ ap (sequential job given) (passes_are k (nat_lt k job.stages.value) refl)

-- ---- the values of a machine

module _ (job : Job) (rows : List law.Row) (acc : Accepted (machine_of job)) where
  passes_by : (T : ℕ) (has : Bool) (w : ℕ) → (has ≡ true → w < job.stages.value)
      → passes_after job rows T (if has then w else job.stages.value) ≡ (if has then passed rows w T else 0)
  passes_by T true w h = rw (lt-ltb w job.stages.value (h refl)) refl
  passes_by T false w h = rw (le-ltb job.stages.value job.stages.value (let e : job.stages.value ≤ job.stages.value = omega arith in e)) refl

  -- the machine of a target has executed the instructions that the target reflects
  pub home_passes : (T t : ℕ) → passes_after job rows T (home_of job t) ≡ passes job rows T t
  unfolding home_of passes machine_of
  home_passes T t = passes_by T (is_some (result_for job t)) (write_stage_of (result_for job t)) (acc.writes t)

  pub home_shows : (given : ℕ → ℕ → ℕ) (machines : List Running) → HaveRun job given rows machines
      → (t a : ℕ) → lane_state machines (home_of job t) t a ≡ sequential job given (passes job rows (length rows) t) t a
  home_shows given machines ran t a =
      ap (λ (s : State). s t a) (ran.states (home_of job t) (homes_within job acc t))
      ∙ ap (λ (i : ℕ). sequential job given i t a) (home_passes (length rows) t)
