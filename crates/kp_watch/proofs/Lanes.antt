-- The machines in lockstep with a run, row by row.
use Rattle.std.proofs.Common.{◌≡◌, ◌≢◌, ◌∙◌, ℕ, suc, ◌+◌, ◌<◌, ◌≤◌, List, [], ◌∷◌, ◌++◌, length, get_or, set, map, Bool, true, false, ◌&&◌, refl, ap, sym, subst, arith, ⊎_elim, length-set}
use Rattle.std.proofs.lemmas.{Bool.ltb-true, Bool.ltb-false, Bool.lt-ltb, Bool.le-ltb, Bool.both_ways, Bool.cases_eq, List.get_or-map, List.get_or-set_other}
use Rattle.std.proofs.lemmas.{List.Elements.All-set, List.Elements.All-push, Grind.get_or-set_at, Grind.get_or_default_zero}
use Rattle.std.specs.{Prelude.nat_lt, Prelude.if◌then◌else◌, Prelude.is_some, List.All}
use Rattle.kp_base.specs.declared.row.Row as masks
use Rattle.kp_ast.specs.declared.tree.Job.{Job}
use Rattle.kp_pipeline.specs.{Accepted.Accepted, Rows.Row, Rows.bit, Rows.bits, Rows.one_if, Rows.passed, Sequential.exec, Sequential.seq}
use Rattle.kp_machine.specs.{Machine.machine_of, Machine.sequential, Machine.state_of, Machine.result_for, Machine.write_stage_of, Slots.targets_of}
use Rattle.kp_sched.specs.{Rows.bit_of, Rows.rows_seen, Runs.passes}
use Rattle.kp_seq.specs.{Running.Running, Running.state, Recorded.record_of}
use Rattle.kp_stage.specs.{Start.start_of, declared.start.Start.Start}
use Rattle.kp_run.specs.Homes.{home_of, AreHomes}
use Rattle.kp_run.proofs.{Machines.homes_within, Machines.home_passes, Machines.next_is, Machines.opened_is, Prefixes.passed_next}
use Rattle.kp_watch.specs.inner.Changes.{no_record}
use Rattle.kp_watch.specs.inner.Machines.{ran, IsHome, AreNeeded, HasRun, HaveRun, HaveRunFirst, due_by}

abbrev State : Type 0
State = ℕ → ℕ → ℕ

-- ---- at the start

-- machines of the job in its start state
pub record AreOpened (job : Job) (machines : List Running) : Type 0 where
  pub jobs : All (λ m. m.job ≡ job) machines
  pub starts : All (λ m. state m ≡ state_of job (start_of job)) machines

pub opened_more : (job : Job) (machines : List Running) (m : Running) (begin : Start) → AreOpened job machines → m.job ≡ job → begin ≡ start_of job
    → state m ≡ state_of job begin → AreOpened job (machines ++ m ∷ [])
opened_more job machines m begin opened same begins starts = record {
  jobs = All-push (λ m. m.job ≡ job) machines m opened.jobs same;
  starts = All-push (λ m. state m ≡ state_of job (start_of job)) machines m opened.starts (starts ∙ ap (state_of job) begins);
}

either : (b : Bool) (x : ℕ) → (if b then x else x) ≡ x
either true x = refl
either false x = refl

none_ran : (n : ℕ) (rows : List Row) (k : ℕ) → ran n rows 0 k ≡ 0
none_ran n rows k = either (nat_lt k n) 0

pub have_begun : (job : Job) (values : ℕ → ℕ → ℕ) (rows : List Row) (machines : List Running) → length machines ≡ job.stages.value + 1 → AreOpened job machines
    → HaveRun job values rows 0 machines
have_begun job values rows machines many opened = record {
  count = many;
  jobs = opened.jobs;
  each = λ k d h home. record {
    state_is = opened.starts k d h ∙ opened_is job values ∙ ap (sequential job values) (sym (none_ran job.stages.value rows k));
    last_is = λ j e. let none = none_ran job.stages.value rows k in absurd (omega (arith, e, none));
  };
}

-- ---- one machine

-- one instruction more
moved_on : (job : Job) (values : ℕ → ℕ → ℕ) (i : ℕ) (m new : Running) → m.job ≡ job → HasRun job values i m → state new ≡ exec (machine_of m.job) (state m) (values i)
    → new.last ≡ record_of m.job (state m) (values i) → HasRun job values (suc i) new
moved_on job values i m new same run stepped recorded = record {
  state_is = stepped ∙ (λ k. exec (machine_of (same k)) (run.state_is k) (values i)) ∙ next_is job (state_of job (start_of job)) values i;
  last_is = λ j e. let at : i ≡ j = omega (arith, e) in recorded ∙ (λ k. record_of (same k) (run.state_is k) (values i)) ∙ ap (λ (l : ℕ). record_of job (sequential job values l) (values l)) at;
}

-- ---- the machines of the first stages have executed one row more

module _ (job : Job) (values : ℕ → ℕ → ℕ) (rows : List masks.Row) (T : ℕ) where
  abbrev n : ℕ
  n = job.stages.value

  abbrev seen : List Row
  seen = rows_seen n rows

  -- how many instructions machine j has executed after i rows
  abbrev after : ℕ → ℕ → ℕ
  after i j = ran n seen i j

  abbrev Is : Running → ℕ → Type 0
  Is m i = HasRun job values i m

  pub first_begin : (machines : List Running) → HaveRun job values seen T machines → HaveRunFirst job values seen T 0 machines
  first_begin machines run = record {
    count = run.count;
    jobs = run.jobs;
    each = λ j d h home. subst (Is (get_or machines j d)) (ap (λ (b : Bool). after (if b then T + 1 else T) j) (sym (le-ltb j 0 (let e : 0 ≤ j = omega arith in e)))) (run.each j d h home);
  }

  pub first_end : (machines : List Running) → HaveRunFirst job values seen T n machines → HaveRun job values seen (T + 1) machines
  first_end machines run = record {
    count = run.count;
    jobs = run.jobs;
    each = λ j d h home. subst (Is (get_or machines j d)) (go j (nat_lt j n) refl) (run.each j d h home);
  }
    where
      go : (j : ℕ) (b : Bool) → nat_lt j n ≡ b → after (if nat_lt j n then T + 1 else T) j ≡ after (T + 1) j
      go j true e = rw e refl
      go j false e = rw e refl

  -- machine k executes an instruction, and all others are unchanged
  others : (k j : ℕ) → j ≢ k → after (if nat_lt j k then T + 1 else T) j ≡ after (if nat_lt j (k + 1) then T + 1 else T) j
  others k j other = go (nat_lt j k) refl
    where
      go : (b : Bool) → nat_lt j k ≡ b → after (if nat_lt j k then T + 1 else T) j ≡ after (if nat_lt j (k + 1) then T + 1 else T) j
      go true e =
          let low : j < k = ltb-true j k e in
          rw (e, lt-ltb j (k + 1) (omega (arith, low))) refl
      go false e =
          let high : k ≤ j = ltb-false j k e in
          let above : k + 1 ≤ j = grind (arith, high, other) in
          rw (e, le-ltb j (k + 1) above) refl

  this : (k : ℕ) → after (if nat_lt k (k + 1) then T + 1 else T) k ≡ after (T + 1) k
  this k = rw (lt-ltb k (k + 1) (let h : k < k + 1 = omega arith in h)) refl

  before : (k : ℕ) → after (if nat_lt k k then T + 1 else T) k ≡ after T k
  before k = rw (le-ltb k k (let h : k ≤ k = omega arith in h)) refl

  counted : (k : ℕ) (d : masks.Row) (b : Bool) → k < n → T < length rows → bit (bits (bit_of (get_or rows T d).ue) n 0) k ≡ b
      → ran n seen (T + 1) k ≡ ran n seen T k + one_if b
  counted k d b low there e =
      rw (lt-ltb k n low) (passed_next n rows k T d there ∙ ap (λ (c : Bool). passed seen k T + one_if c) e)

  pub first_moves : (k i : ℕ) (machines : List Running) (m new d : Running) (r : masks.Row) → HaveRunFirst job values seen T k machines → k < n → T < length rows
      → bit (bits (bit_of (get_or rows T r).ue) n 0) k ≡ true → i ≡ passed seen k T → m ≡ get_or machines k d
      → new.job ≡ m.job → state new ≡ exec (machine_of m.job) (state m) (values i) → new.last ≡ record_of m.job (state m) (values i)
      → HaveRunFirst job values seen T (k + 1) (set machines k new)
  first_moves k i machines m new d r run low there moves count is same stepped recorded = record {
    count = length-set machines k new ∙ run.count;
    jobs = All-set (λ m. m.job ≡ job) machines k new (same ∙ of_job) run.jobs;
    each = λ j e h home. ⊎_elim
        (λ (at : j ≡ k).
        subst (λ (x : Running). Is x (after (if nat_lt j (k + 1) then T + 1 else T) j)) (sym (get_or-set_at machines k j new e at in_list))
        (subst (Is new) (sym (this k) ∙ ap (λ (l : ℕ). after (if nat_lt l (k + 1) then T + 1 else T) l) (sym at)) (moved (subst (IsHome job) at home))))
        (λ (apart : j ≡ k → ⊥). other j e home (omega (arith, h, length-set machines k new)) apart)
        (cases_eq j k);
  }
    where
      in_list : k < length machines
      in_list = omega (arith, low, run.count)

      of_job : m.job ≡ job
      of_job = ap (λ (x : Running). x.job) is ∙ run.jobs k d in_list

      ran_is : ran n seen T k ≡ i
      ran_is = rw (lt-ltb k n low) (sym count)

      begins : IsHome job k → HasRun job values i m
      begins home = subst (λ (x : Running). Is x i) (sym is) (subst (Is (get_or machines k d)) (before k ∙ ran_is) (run.each k d in_list home))

      moved : IsHome job k → Is new (after (T + 1) k)
      moved home = subst (Is new) (let e = counted k r true low there moves in omega (arith, e, ran_is)) (moved_on job values i m new of_job (begins home) stepped recorded)

      other : (j : ℕ) (e : Running) → IsHome job j → j < length machines → j ≢ k → Is (get_or (set machines k new) j e) (after (if nat_lt j (k + 1) then T + 1 else T) j)
      other j e home h apart = subst (λ (x : Running). Is x (after (if nat_lt j (k + 1) then T + 1 else T) j)) (sym (get_or-set_other machines k j new e apart))
          (subst (Is (get_or machines j e)) (others k j apart) (run.each j e h home))

  -- no machine executes an instruction: the stage doesn't update, or no target needs machine k
  pub first_stays : (k : ℕ) (machines : List Running) → HaveRunFirst job values seen T k machines → (IsHome job k → after T k ≡ after (T + 1) k)
      → HaveRunFirst job values seen T (k + 1) machines
  first_stays k machines run still = record {
    count = run.count;
    jobs = run.jobs;
    each = λ j e h home. subst (Is (get_or machines j e)) (⊎_elim
        (λ (at : j ≡ k).
        ap (λ (l : ℕ). after (if nat_lt l k then T + 1 else T) l) at
        ∙ before k ∙ still (subst (IsHome job) at home) ∙ sym (this k)
        ∙ ap (λ (l : ℕ). after (if nat_lt l (k + 1) then T + 1 else T) l) (sym at))
        (λ (apart : j ≡ k → ⊥). others k j apart)
        (cases_eq j k)) (run.each j e h home);
  }

  still_rests : (k : ℕ) (r : masks.Row) → k < n → T < length rows → bit (bits (bit_of (get_or rows T r).ue) n 0) k ≡ false → after T k ≡ after (T + 1) k
  still_rests k r low there rests = let e = counted k r false low there rests in omega (arith, e)

  -- the marks say that no target needs it
  still_idle : (needed : List Bool) (k : ℕ) → AreNeeded job needed → get_or needed k false ≡ false → IsHome job k → after T k ≡ after (T + 1) k
  still_idle needed k are idle home = absurd (both_ways _ idle (ap (λ (j : ℕ). get_or needed j false) (sym home.2) ∙ are.1 home.0 home.1))

  pub still : (needed : List Bool) (k : ℕ) (r : masks.Row) → AreNeeded job needed → k < n → T < length rows
      → (get_or needed k false && bit (bits (bit_of (get_or rows T r).ue) n 0) k) ≡ false → IsHome job k → after T k ≡ after (T + 1) k
  still needed k r are low there rests home = go (get_or needed k false) refl rests
    where
      go : (b : Bool) → get_or needed k false ≡ b → (b && bit (bits (bit_of (get_or rows T r).ue) n 0) k) ≡ false → after T k ≡ after (T + 1) k
      go true e off = still_rests k r low there off
      go false e off = still_idle needed k are e home

-- ---- the values of the machines

-- the value of a target is that in the state of its machine
at_home : (job : Job) (machines : List Running) (t k : ℕ) (m d : Running) → k ≡ home_of job t → k < length machines → m ≡ get_or machines k d → due_by job machines t ≡ state m t
at_home job machines t k m d home there is =
    ap (λ (h : ℕ). get_or (map state machines) h (λ s a. 0) t) (sym home)
    ∙ ap (λ (s : State). s t) (get_or-map state machines k d (λ s a. 0) there)
    ∙ ap (λ (x : Running). state x t) (sym is)

pub machine_at : (job : Job) (machines : List Running) (homes : List ℕ) (t d k : ℕ) (m : Running) → AreHomes job homes → length machines ≡ job.stages.value + 1
    → All (λ m. m.job ≡ job) machines → t < length (targets_of job.decls) → k ≡ get_or homes t d → m ≡ get_or machines k m → (m.job ≡ job) × (due_by job machines t ≡ state m t)
machine_at job machines homes t d k m are many jobs within place is =
    let there : t < length homes = omega (arith, within, are.count) in
    let home : k ≡ home_of job t = place ∙ get_or_default_zero homes t d there ∙ are.homes t there in
    let low : k < length machines = omega (arith, home, are.within t, many) in
    (ap (λ (x : Running). x.job) is ∙ jobs k m low, at_home job machines t k m m home low is)

module _ (job : Job) (acc : Accepted (machine_of job)) (rows : List Row) (T : ℕ) where
  pub due_at : (values : ℕ → ℕ → ℕ) (machines : List Running) → HaveRun job values rows T machines → (t a : ℕ) → t < length (targets_of job.decls)
      → due_by job machines t a ≡ sequential job values (passes job rows T t) t a
  due_at values machines run t a there =
      let d : Running = record { job = job; words = []; last = no_record } in
      let within : home_of job t < length machines = omega (arith, homes_within job acc t, run.count) in
      ap (λ (s : State). s t a) (get_or-map state machines (home_of job t) d (λ s a. 0) within ∙ (run.each (home_of job t) d within (t, there, refl)).state_is)
      ∙ ap (λ (i : ℕ). sequential job values i t a) (home_passes job rows acc T t)
