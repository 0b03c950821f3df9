-- One instruction more in a window.
use Rattle.std.proofs.Common.{◌≡◌, ◌∙◌, ℕ, suc, ◌+◌, ◌*◌, ◌/◌, ◌%◌, ◌^◌, ◌<◌, ◌≤◌, List, length, get_or, set, refl, ap, sym, subst, arith, ⊎_elim, lit<, None}
use Rattle.std.proofs.{Math.Nat.div-add-mod, Math.Nat.mod-lt, lemmas.Bool.cases_eq, lemmas.Bool.cases_lt}
use Rattle.std.proofs.lemmas.List.{get_or-set_same, get_or-set_other, length-map, length-set}
use Rattle.kp_bits.specs.Word.{Word}
use Rattle.kp_ast.specs.declared.tree.Job.{Job}
use Rattle.kp_stage.specs.{Counts.summary_of, Start.start_of, Stages.broken_of}
use Rattle.kp_pipeline.specs.Sequential.{exec, seq}
use Rattle.kp_design.proofs.Limits.{few}
use Rattle.kp_machine.specs.{Machine.machine_of, Machine.sequential, Machine.state_of, Machine.values_in, Slots.targets_of, Words.after_one}
use Rattle.kp_seq.specs.Running.{Running, state}
use Rattle.kp_sites.proofs.Sizes.{record_room, writers_many}
use Rattle.kp_sites.specs.Sites.{Sited, sited}
use Rattle.kp_stalls.specs.Occupants.{Report, report, report_of, nothing, stored, value_before}
use Rattle.kp_stalls.specs.Windows.{Follows, HasRoom, IsKept, Windowed}

next_state : (job : Job) (given : ℕ → ℕ → ℕ) (i : ℕ) → exec (machine_of job) (sequential job given i) (given i) ≡ sequential job given (suc i)
unfolding seq
next_state job given i = refl

pub first_state : (job : Job) (given : ℕ → ℕ → ℕ) → state_of job (start_of job) ≡ sequential job given 0
unfolding seq
first_state job given = refl

far : (c d x y i n : ℕ) → i ≡ 16 * c + x → n ≡ 16 * d + y → i < n → n ≤ i + 15 → x ≡ y → ⊥
far c d x y i n p q b l e = omega (arith, p, q, b, l, e)

-- two of the last sixteen have different places
apart : (i n : ℕ) → i < n → n ≤ i + 15 → i % 16 ≡ n % 16 → ⊥
apart i n b l e =
    far (i / 16) (n / 16) (i % 16) (n % 16) i n (sym (div-add-mod i 16)) (sym (div-add-mod n 16)) b l e

module _ (job : Job) (given : ℕ → ℕ → ℕ) (old new : Windowed) (row : List Word) (job_is : old.machine.job ≡ job) (count : length old.ring ≡ 16)
    (now : given old.next ≡ values_in row) (next : new.next ≡ old.next + 1)
    (stepped : state new.machine ≡ after_one old.machine.job (state old.machine) row)
    (written : new.ring ≡ set old.ring (old.next % 16) (report_of old.machine.job (state old.machine) (values_in row)))
    (follows : Follows job given old) where
  newest : report_of old.machine.job (state old.machine) (values_in row) ≡ report job given old.next
  newest = λ i. report_of (job_is i) (follows.state_is i) (sym now i)

  at_next : (i : ℕ) → i < old.next + 1 → old.next + 1 ≤ i + 16 → stored (set old.ring (old.next % 16) (report job given old.next)) i ≡ report job given i
  at_next i b l = ⊎_elim
      (λ (lt : i < old.next).
      get_or-set_other old.ring (old.next % 16) (i % 16) (report job given old.next) nothing (λ e. apart i old.next lt (omega (arith, l)) (omega (arith, e)))
      ∙ follows.report i lt (omega (arith, l)))
      (λ (ge : old.next ≤ i).
      let is : old.next ≡ i = omega (arith, ge, b) in
      ap (λ n. stored (set old.ring (n % 16) (report job given n)) i) is
      ∙ get_or-set_same old.ring (i % 16) (report job given i) nothing (let p : i % 16 < 16 = mod-lt i (lit< tt) in omega (arith, p, count)))
      (cases_lt i old.next)

  pub next_follows : Follows job given new
  next_follows = record {
    state_is = stepped ∙ (λ i. exec (machine_of (job_is i)) (follows.state_is i) (sym now i)) ∙ next_state job given old.next
        ∙ (let e : suc old.next ≡ new.next = omega (arith, next) in ap (sequential job given) e);
    report = λ i b l.
        ap (λ ring. stored ring i) (written ∙ ap (set old.ring (old.next % 16)) newest)
        ∙ at_next i (omega (arith, b, next)) (omega (arith, l, next));
  }

-- the places keep their sizes
pub room_set : (job : Job) (ring : List Report) (p : ℕ) (f : Report) → length ring ≡ 16 → HasRoom job f → ((j : ℕ) → j < 16 → HasRoom job (get_or ring j nothing))
    → (j : ℕ) → j < 16 → HasRoom job (get_or (set ring p f) j nothing)
room_set job ring p f count here all j b = ⊎_elim
    (λ (is : j ≡ p). subst (HasRoom job) (sym (ap (λ q. get_or (set ring q f) j nothing) (sym is) ∙ get_or-set_same ring j f nothing (omega (arith, b, count)))) here)
    (λ ne. subst (HasRoom job) (sym (get_or-set_other ring p j f nothing ne)) (all j b))
    (cases_eq j p)

-- what is reported of an instruction has its size
pub report_room : (job : Job) (s : ℕ → ℕ → ℕ) (q : ℕ → ℕ) → length job.blocks ≡ job.stages.value → HasRoom job (report_of job s q)
report_room job s q e =
    let recorded = record_room job s q e in
    record { reads = recorded.reads; writes = recorded.writes; settings = recorded.settings; values = length-map (sited job).reads (value_before job s) }

pub targets_many : (job : Job) (s : Sited) → s ≡ sited job → length s.writers ≡ length (targets_of job.decls)
targets_many job s e = ap (λ (x : Sited). length x.writers) e ∙ writers_many job (length (targets_of job.decls))

targets_few : (job : Job) (s : Sited) → broken_of job ≡ None → s ≡ sited job → length s.writers < 2 ^ 32
targets_few job s rules e =
    let f = few job rules in
    let l = f.targets in
    let same = targets_many job s e in
    omega (arith, l, same)

-- a window before its first instruction
pub kept_first : (job : Job) (m : Running) (s : Sited) (ring : List Report) → broken_of job ≡ None → length job.blocks ≡ job.stages.value → m.job ≡ job → s ≡ sited job → length ring ≡ 16
    → ((j : ℕ) → j < 16 → HasRoom job (get_or ring j nothing)) → (summary_of job).reads < 2 ^ 32 → (summary_of job).results < 2 ^ 32
    → IsKept m.job (record { machine = m; sites = s; next = 0; ring = ring })
kept_first job m s ring rules blocks same sites count room reads results =
    subst (λ j. IsKept j (record { machine = m; sites = s; next = 0; ring = ring })) (sym same) (record {
      job_is = same;
      sites_are = sites;
      count = count;
      room = room;
      few_reads = reads;
      few_results = results;
      blocks = blocks;
      targets = targets_few job s rules sites;
    })

pub follows_first : (job : Job) (m : Running) (s : Sited) (ring : List Report) (given : ℕ → ℕ → ℕ) → state m ≡ state_of job (start_of job)
    → Follows job given (record { machine = m; sites = s; next = 0; ring = ring })
follows_first job m s ring given e = record { state_is = e ∙ first_state job given; report = λ i b l. absurd (omega (arith, b)) }

-- and after one more
pub kept_next : (job : Job) (w : Windowed) (m : Running) (n p : ℕ) (s : ℕ → ℕ → ℕ) (q : ℕ → ℕ) → IsKept job w → m.job ≡ job
    → IsKept m.job (record { machine = m; sites = w.sites; next = n; ring = set w.ring p (report_of job s q) })
kept_next job w m n p s q kept same =
    subst (λ j. IsKept j (record { machine = m; sites = w.sites; next = n; ring = set w.ring p (report_of job s q) })) (sym same) (record {
      job_is = same;
      sites_are = kept.sites_are;
      count = length-set w.ring p (report_of job s q) ∙ kept.count;
      room = room_set job w.ring p (report_of job s q) kept.count (report_room job s q kept.blocks) kept.room;
      few_reads = kept.few_reads;
      few_results = kept.few_results;
      blocks = kept.blocks;
      targets = kept.targets;
    })

-- one more step, where the window is seen as `now`
pub follows_step : (old now new : Windowed) (row : List Word) → old ≡ now → length old.ring ≡ 16 → new.next ≡ old.next + 1
    → state new.machine ≡ after_one old.machine.job (state old.machine) row
    → new.ring ≡ set old.ring (old.next % 16) (report_of old.machine.job (state old.machine) (values_in row))
    → (given : ℕ → ℕ → ℕ) → given now.next ≡ values_in row → Follows now.machine.job given now → Follows now.machine.job given new
follows_step old now new row e count next stepped written =
    subst (λ (x : Windowed). (given : ℕ → ℕ → ℕ) → given x.next ≡ values_in row → Follows x.machine.job given x → Follows x.machine.job given new) e
    (λ given taken f. next_follows old.machine.job given old new row refl count taken next stepped written f)
