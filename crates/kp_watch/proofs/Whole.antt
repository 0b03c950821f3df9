-- From the states of a run to the complete run.
use Rattle.std.proofs.Common.{◌≡◌, ◌∙◌, ℕ, ◌+◌, ◌<◌, ◌≤◌, List, [], length, Bool, true, false, Option, Some, None, refl, ap, sym, subst, arith, below_more}
use Rattle.std.{proofs.lemmas.Bool.ltb-true, proofs.lemmas.Bool.ltb-false, specs.Prelude.nat_lt}
use Rattle.kp_base.specs.declared.row.Row as masks
use Rattle.kp_bits.specs.Word.{word}
use Rattle.kp_ast.specs.declared.tree.Job.{Job}
use Rattle.kp_cycle.specs.Steps.{Running as Simulated}
use Rattle.kp_pipeline.specs.{Accepted.Accepted, Rows.taken}
use Rattle.kp_pipeline.specs.Rows as law
use Rattle.kp_stage.specs.Start.{input, AreSamples}
use Rattle.kp_machine.specs.{Machine.machine_of, Machine.sequential, Machine.inputs_from, Words.HasWord, Words.target}
use Rattle.kp_net.specs.Netlist.{Net, State as NetState, run, last_of}
use Rattle.kp_sched.specs.{Rows.rows_seen, Runs.passes, Runs.due_value}
use Rattle.kp_sched.proofs.Counting.{seen_length}
use Rattle.kp_implements.specs.{Naming.value_shown, Shows.IsOfJob, Traces.trace_of}
use Rattle.kp_seq.specs.Running.{Running}
use Rattle.kp_run.specs.{Boards.due_behind, Cycles.inputs_to, Cycles.own_trace, Places.place_in, Places.places_in}
use Rattle.kp_run.{proofs.Gathering.taken_is, proofs.Prefixes.state_is, proofs.Prefixes.rows_many, specs.declared.difference.Difference.Difference}
use Rattle.kp_watch.specs.{Watching.own_due, Watching.Agrees, Watching.IsFirstDifference, declared.lockstep.Beside.Beside, declared.compare.Tables.Tables}
use Rattle.kp_watch.specs.inner.Beside.{IsRecorded, AreTables, HaveCome}
use Rattle.kp_watch.specs.inner.{Changes.AreNoted, Changes.AgreeElsewhere, Changes.IsComparable, Changes.noted_at, Comparing.IsFirstIn, Comparing.Compares}
use Rattle.kp_watch.specs.inner.Machines.{given, HaveRun, due_by}
use Rattle.kp_watch.proofs.{Kept.value_kept, Kept.record_there, Kept.due_kept, Lanes.due_at, Rows.HaveComeIn, Rows.come_in}

abbrev State : Type 0
State = ℕ → ℕ → ℕ

-- states with the same words
abbrev SameWords : Job → State → State → Type 0
SameWords job s r = (t a : ℕ) → HasWord job t a → s t a ≡ r t a

compares_alike : (job : Job) (shown owed a b : State) (T : ℕ) (result : Option Difference) → SameWords job shown a → SameWords job owed b → Compares job shown owed T result → Compares job a b T result
compares_alike job shown owed a b T None e f agree = λ s c there. sym (e s c there) ∙ agree s c there ∙ f s c there
compares_alike job shown owed a b T (Some d) e f first = record {
  cycle_is = first.cycle_is;
  there = first.there;
  differs = λ z. first.differs (e d.target d.address first.there ∙ z ∙ sym (f d.target d.address first.there));
  before = λ s c there low. sym (e s c there) ∙ first.before s c there low ∙ f s c there;
  found_is = first.found_is ∙ ap (word (target job d.target).width) (e d.target d.address first.there);
  due_is = first.due_is ∙ ap (word (target job d.target).width) (f d.target d.address first.there);
}

module _ (job : Job) (net : Net) (n : ℕ) where
  abbrev rows : List masks.Row
  rows = (run net (inputs_to job n)).rows

  abbrev seen : List law.Row
  seen = rows_seen job.stages.value rows

  -- both agree in all states before T
  abbrev pub AgreeTo : ℕ → Type 0
  AgreeTo T = (U t a : ℕ) → U < T → HasWord job t a → (own_trace job net n).visible U t a ≡ own_due job net n U t a

  shown_is : (T : ℕ) → T ≤ n → value_shown job net (last_of net (inputs_to job T)) ≡ (own_trace job net n).visible T
  unfolding trace_of
  shown_is T h = ap (λ (st : NetState). value_shown job net st) (sym (state_is job net n T h))

  cycles : length seen ≡ n
  cycles = seen_length job.stages.value rows ∙ rows_many job net n

  agree_more : (T : ℕ) → AgreeTo T → Compares job ((own_trace job net n).visible T) (own_due job net n T) T None → AgreeTo (T + 1)
  agree_more T agreed last U t a h there =
      below_more (λ (V : ℕ). (s b : ℕ) → HasWord job s b → (own_trace job net n).visible V s b ≡ own_due job net n V s b) T (λ V low s b. agreed V s b low) last U h t a there

  -- the first difference of a state is that of the run
  is_recorded : (T : ℕ) (d : Difference) → T ≤ n → AgreeTo T → IsFirstIn job ((own_trace job net n).visible T) (own_due job net n T) T d → IsRecorded job net n d
  is_recorded T d h agreed first = (
    subst (λ (c : ℕ). IsFirstDifference job net n c d.target d.address) (sym first.cycle_is) (record {
      within = h;
      there = first.there;
      differs = first.differs;
      cycles_before = λ U s b low there. agreed U s b low there;
      words_before = first.before;
    }),
    subst (λ (c : ℕ). d.found ≡ word (target job d.target).width ((own_trace job net n).visible c d.target d.address)) (sym first.cycle_is) first.found_is,
    subst (λ (c : ℕ). d.due ≡ word (target job d.target).width (own_due job net n c d.target d.address)) (sym first.cycle_is) first.due_is,
  )

  -- ---- one state

  module _ (acc : Accepted (machine_of job)) (samples : (cycle : ℕ) → AreSamples job.decls (input job cycle)) (tables : Tables) (tabled : AreTables job net rows tables) where
    abbrev values : State
    values = given tables.columns.items

    -- the specified value, by the machines
    due_here : (T t a : ℕ) → sequential job values (passes job seen T t) t a ≡ own_due job net n T t a
    unfolding due_value trace_of
    due_here T t a =
        ap (λ (g : State). sequential job g (passes job seen T t) t a)
        (taken_is job rows tables.columns.items samples tabled.columns ∙ ap (λ (m : ℕ). taken (machine_of job) (inputs_from job 0 m) seen) cycles)

    -- a comparison of one state is one of that state of the run
    compares_own : (T : ℕ) (both : Beside) (result : Option Difference) → T ≤ n → HaveCome job net tables T both
        → Compares job (value_shown job both.sim.net both.sim.state) (due_by job both.machines.items) T result
        → Compares job ((own_trace job net n).visible T) (own_due job net n T) T result
    compares_own T both result h come =
        compares_alike job (value_shown job both.sim.net both.sim.state) (due_by job both.machines.items) ((own_trace job net n).visible T) (own_due job net n T) T result
        (λ t a there. ap (λ (s : Simulated). value_shown job s.net s.state t a) come.sim ∙ ap (λ (f : State). f t a) (shown_is T h))
        (λ t a there. due_at job acc seen T values both.machines.items (come_in job net n tables T both h come).machines t a there.target ∙ due_here T t a)

    pub state_differs : (T : ℕ) (both : Beside) (d : Difference) → T ≤ n → HaveCome job net tables T both → AgreeTo T
        → Compares job (value_shown job both.sim.net both.sim.state) (due_by job both.machines.items) T (Some d) → IsRecorded job net n d
    state_differs T both d h come agreed first = is_recorded T d h agreed (compares_own T both (Some d) h come first)

    pub state_agrees : (T : ℕ) (both : Beside) → T ≤ n → HaveCome job net tables T both → AgreeTo T
        → Compares job (value_shown job both.sim.net both.sim.state) (due_by job both.machines.items) T None → AgreeTo (T + 1)
    state_agrees T both h come agreed none = agree_more T agreed (compares_own T both None h come none)

    -- what was not written in cycle T agrees after it, if all words agree before it
    elsewhere : (T : ℕ) (both : Beside) → IsOfJob net job → T < n → HaveComeIn job net rows tables (T + 1) both → AreNoted job net T both.written.items → AgreeTo (T + 1) → AgreeElsewhere job both
    elsewhere T both of_job low come noted agreed t a there not_noted not_wrote =
        let before : T < length rows = omega (arith, low, rows_many job net n) in
        let same_net : both.sim.net ≡ net = ap (λ (s : Simulated). s.net) come.sim in
        ap (λ (s : Simulated). value_shown job s.net s.state t a) come.sim
        ∙ value_kept job net of_job T both.written.items noted t a there (λ z. not_noted (ap (λ (m : Net). noted_at both.written.items (place_in m (target job t))) same_net ∙ z))
        ∙ ap (λ (f : State). f t a) (shown_is T (omega (arith, low)))
        ∙ agreed T t a (omega arith) there
        ∙ sym (due_here T t a)
        ∙ sym (due_kept job acc values rows T both.machines.items both.monitor t come.machines come.stages come.seen before there.target a not_wrote)
        ∙ sym (due_at job acc seen (T + 1) values both.machines.items come.machines t a there.target)

    pub comparable : (T : ℕ) (both : Beside) → IsOfJob net job → T < n → HaveCome job net tables (T + 1) both → AreNoted job net T both.written.items → AgreeTo (T + 1) → IsComparable job tables both
    comparable T both of_job low ran noted agreed =
        let come = come_in job net n tables (T + 1) both (omega (arith, low)) ran in
        let same_net : net ≡ both.sim.net = sym (ap (λ (s : Simulated). s.net) come.sim) in
        let before : T < length rows = omega (arith, low, rows_many job net n) in
        record {
          of_job = subst (λ (m : Net). IsOfJob m job) same_net of_job;
          places = tabled.places ∙ ap (places_in job) same_net;
          homes = tabled.homes;
          results = tabled.results;
          count = come.machines.count;
          jobs = come.machines.jobs;
          noted = come.noted ∙ ap (λ (m : Net). length m.parts.files) same_net;
          recorded = λ t within. record_there job acc values rows T both.machines.items both.monitor t come.machines come.stages come.seen before within;
          elsewhere = elsewhere T both of_job low come noted agreed;
        }

  -- ---- all states

  pub agrees : AgreeTo (n + 1) → Agrees job net n
  unfolding trace_of
  agrees agreed T t a h there = agreed T t a (omega (arith, h, cycles)) there

  -- then the specified values after it are those of the netlist
  pub last_is_due : (rows : List masks.Row) → rows ≡ (run net (inputs_to job n)).rows → Agrees job net n → (t a : ℕ) → HasWord job t a
      → value_shown job net (last_of net (inputs_to job n)) t a ≡ due_behind job rows t a
  unfolding trace_of
  last_is_due rows is all t a there =
      let many : length rows ≡ n = ap (λ (l : List masks.Row). length l) is ∙ rows_many job net n in
      let whole : n ≤ n = omega arith in
      let within : n ≤ length seen = omega (arith, cycles) in
      ap (λ (f : State). f t a) (shown_is n whole)
      ∙ all n t a within there
      ∙ ap (λ (m : ℕ). due_value job (inputs_from job 0 m) seen m t a) (sym many)
      ∙ ap (λ (l : List masks.Row). due_value job (inputs_from job 0 (length rows)) (rows_seen job.stages.value l) (length rows) t a) (sym is)
