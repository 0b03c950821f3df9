-- A netlist shows each word of the sequential machine, after as many instructions as have updated its target.
use Rattle.std.proofs.Common.{◌≡◌, ◌∙◌, ℕ, zero, suc, ◌+◌, ◌-◌, ◌<◌, ◌≤◌, Bool, true, false, List, length, None, refl, ap, sym, subst, arith}
use Rattle.std.proofs.lemmas.Bool.{lt-ltb}
use Rattle.std.specs.Prelude.{nat_lt, ◌&&◌, cond, if◌then◌else◌, unwrap_or}
use Rattle.kp_base.specs.First.{first}
use Rattle.kp_ast.specs.declared.tree.Job.{Job}
use Rattle.kp_width.specs.Widths.{widths_of}
use Rattle.kp_image.specs.Sections.{sections_of}
use Rattle.kp_pipeline.specs.{Accepted.Accepted, Machine.Machine, Machine.Samples, Machine.State, Pipeline.Inputs, Pipeline.pipeline_start, Rows.Row, Rows.Trace, Rows.counts, Rows.one_if, Rows.pipe, Rows.passed, Rows.state_after, Sequential.seq, Sequential.before_stage, Sequential.intends}
use Rattle.kp_pipeline.proofs.Counts.{counts-chain, counts-passed}
use Rattle.kp_machine.specs.Machine.{machine_of, inputs_from, pipe_of, start_hints, state_of}
use Rattle.kp_stage.specs.Start.{start_of}
use Rattle.kp_net.specs.Netlist.{Net, State as NetState}
use Rattle.kp_sched.specs.Runs.{passes, due_value, IsLegal, ShowsAlike}
use Rattle.kp_implements.specs.{Naming.value_shown, Shows.Shows, Traces.trace_of}
use Rattle.kp_run.{specs.Cycles.inputs_to, specs.Homes.home_of, specs.inner.Lanes.passes_after, proofs.Inputs.seen_to, proofs.Inputs.quiet_to, proofs.Legal.alike_itself, proofs.Machines.home_passes, proofs.Prefixes.state_is}
use Rattle.kp_until_run.specs.{Ending.own_rows, Ending.retired_in, Ending.states_in, inner.Pasts.updates_in, inner.Pasts.AreNear, inner.Pasts.Shown}
use Rattle.kp_until_run.proofs.Reaching.{Agree, agrees, earlier, many}

-- ---- the stages after that of an update

one_at_most : (b : Bool) → one_if b ≤ 1
one_at_most true = omega arith
one_at_most false = omega arith

module _ (m : Machine) (s : State) (hints : ℕ → ℕ) (ins : List Inputs) (acc : Accepted m) (T : ℕ) where
  abbrev count : ℕ → ℕ
  count k = counts m.stages (pipe m s hints ins).rows T k

  pub counts_near : (k d : ℕ) → k + d < m.stages → (count (k + d) ≤ count k) × (count k ≤ count (k + d) + d)
  counts_near k zero h = let e = ap count (let z : k + 0 ≡ k = omega arith in z) in (omega (arith, e), omega (arith, e))
  counts_near k (suc d) h =
      let c = counts-chain m s hints ins acc (k + d) T (omega (arith, h)) in
      let b = one_at_most ((state_after m (pipeline_start s hints) ins T).stage (suc (k + d))).full in
      let e = ap count (let z : k + suc d ≡ suc (k + d) = omega arith in z) in
      let p = counts_near k d (omega (arith, h)) in
      (omega (arith, c, b, e, p.0), omega (arith, c, b, e, p.1))

  pub passed_near : (k : ℕ) → k < m.stages → m.last_guessed ≤ k + 1
      → (passed (pipe m s hints ins).rows (m.stages - 1) T ≤ passed (pipe m s hints ins).rows k T)
      × (passed (pipe m s hints ins).rows k T ≤ passed (pipe m s hints ins).rows (m.stages - 1) T + (m.stages - 1))
  passed_near k h w =
      let p = counts_near k (m.stages - 1 - k) (omega (arith, h)) in
      let e = ap count (let z : k + (m.stages - 1 - k) ≡ m.stages - 1 = omega (arith, h) in z) in
      let a = counts-passed m s hints ins acc k T h w in
      let b = counts-passed m s hints ins acc (m.stages - 1) T (omega (arith, h)) (omega (arith, h, w)) in
      (omega (arith, p.0, e, a, b), omega (arith, p.1, e, a, b))

-- ---- a target without a result

stay : (m : Machine) (s : State) (given : Samples) (t a : ℕ) → m.has_result t ≡ false → (i : ℕ) → seq m s given i t a ≡ s t a
unfolding seq
stay m s given t a none zero = refl
stay m s given t a none (suc i) =
    let c = before_stage m (seq m s given i) (given i) m.stages in
    ap (λ (b : Bool). cond (b && intends m c t a) (unwrap_or (c.results t) 0) (seq m s given i t a)) none
    ∙ stay m s given t a none i

-- ---- the targets of a job

has_home : (has : Bool) (w n : ℕ) → (if has then w else n) < n → (has ≡ true) × ((if has then w else n) ≡ w)
has_home true w n h = (refl, refl)
has_home false w n h = absurd (omega (arith, h))

no_home : (has : Bool) (w n : ℕ) → (has ≡ true → w < n) → n ≤ (if has then w else n) → has ≡ false
no_home true w n writes h = let l = writes refl in absurd (omega (arith, l, h))
no_home false w n writes h = refl

passes_there : (job : Job) (rows : List Row) (T k : ℕ) → k < job.stages.value → passes_after job rows T k ≡ passed rows k T
passes_there job rows T k h = rw (lt-ltb k job.stages.value h) refl

pub near : (job : Job) (limit n : ℕ) → Accepted (machine_of job) → job.stages.value ≤ 12 → AreNear job limit n
unfolding home_of machine_of
near job limit n acc few = record { some = λ t h. (both t h).0; few = λ t h. let p = (both t h).1 in omega (arith, p, few); stays = stays }
  where
    m : Machine
    m = machine_of job

    both : (t : ℕ) → home_of job t < job.stages.value → (retired_in job n ≤ updates_in job n t) × (updates_in job n t ≤ retired_in job n + (job.stages.value - 1))
    both t h =
        let at = has_home (m.has_result t) (m.write_stage t) job.stages.value h in
        let w : m.write_stage t < job.stages.value = omega (arith, h, at.1) in
        let p = passed_near m (state_of job (start_of job)) (start_hints job) (inputs_from job 0 n) acc n (m.write_stage t) w (acc.window t at.0) in
        let u : updates_in job n t ≡ passed (own_rows job n) (m.write_stage t) n = passes_there job (own_rows job n) n (home_of job t) h ∙ ap (λ (k : ℕ). passed (own_rows job n) k n) at.1 in
        (omega (arith, p.0, u), omega (arith, p.1, u))

    stays : (t i a : ℕ) → job.stages.value ≤ home_of job t → states_in job limit i t a ≡ states_in job limit 0 t a
    stays t i a h =
        let none = no_home (m.has_result t) (m.write_stage t) job.stages.value (acc.writes t) h in
        stay m (state_of job (start_of job)) _ t a none i ∙ sym (stay m (state_of job (start_of job)) _ t a none 0)

-- ---- what a netlist shows

module _ (job : Job) (net : Net) (limit : ℕ) (acc : Accepted (machine_of job)) (names : first (widths_of job).asked ≡ None) (unbroken : first (sections_of job).asked ≡ None)
    (shows : Shows net job) (legal : (ins : List Inputs) (trace : Trace) → ShowsAlike job trace (pipe_of job ins) → IsLegal job ins trace) where
  abbrev ins : List Inputs
  ins = inputs_from job 0 limit

  alike : ShowsAlike job (trace_of job net (inputs_to job limit)) (pipe_of job ins)
  alike = subst (λ (l : List Inputs). ShowsAlike job (trace_of job net (inputs_to job limit)) (pipe_of job l)) (seen_to job names unbroken limit) (shows.runs (inputs_to job limit) (quiet_to job limit))

  agree : Agree job net
  agree = agrees job net names unbroken shows

  rows_there : length (trace_of job net (inputs_to job limit)).rows ≡ limit
  rows_there = ap (λ (l : List Row). length l) alike.rows ∙ many job net agree limit

  updates_are : (T t : ℕ) → T ≤ limit → passes job (own_rows job limit) T t ≡ updates_in job T t
  updates_are T t h =
      sym (home_passes job (own_rows job limit) acc T t)
      ∙ ap (λ (n : ℕ). if nat_lt (home_of job t) job.stages.value then n else 0)
      (ap (λ (n : ℕ). passed (own_rows job n) (home_of job t) T) (let e : limit ≡ T + (limit - T) = omega (arith, h) in e) ∙ earlier job net agree (home_of job t) T (limit - T))

  pub shown : Shown job net limit
  unfolding trace_of due_value
  shown T t a h there =
      ap (λ (st : NetState). value_shown job net st t a) (sym (state_is job net limit T h))
      ∙ alike.values T t a (omega (arith, h, rows_there)) there
      ∙ legal ins (pipe_of job ins) (alike_itself job (pipe_of job ins)) T t a (let e = many job net agree limit in omega (arith, h, e)) there
      ∙ ap (λ (i : ℕ). states_in job limit i t a) (updates_are T t h)
