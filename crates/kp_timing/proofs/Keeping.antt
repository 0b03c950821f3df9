-- The invariant of a timeline, cycle by cycle.
use Rattle.std.proofs.Common.{◌≡◌, ◌∙◌, ℕ, zero, suc, ◌+◌, ◌-◌, ◌<◌, ◌≤◌, List, [], ◌∷◌, Option, Some, None, Bool, true, false, cond, not, ◌&&◌, length, get_or, set, replicate, ◌^◌, refl, ap, sym, subst, arith, inr}
use Rattle.std.proofs.lemmas.{Bool.and_right, List.length-set, List.get_or-set_same, List.get_or-set_other}
use Rattle.std.{proofs.lemmas.List.Sums.sum_by-cons, specs.Prelude.is_some, specs.Prelude.unwrap_or, specs.Prelude.sum_by}
use Rattle.kp_stage.specs.{Facts.facts_of, Stages.broken_of, Counts.summary_of, Counts.samples_in, declared.start.Start.Start}
use Rattle.kp_stage.proofs.{Unbroken.stages_kept, Kept.rules_kept}
use Rattle.kp_machine.{proofs.Cases.by_test, proofs.Stages.stages_inside, specs.Slots.samples_of}
use Rattle.kp_machine.specs.{Machine.machine_of, Machine.state_of, Machine.values_in, Words.after_one}
use Rattle.kp_ast.specs.declared.tree.{Decl.Decl, Job.Job}
use Rattle.kp_ast.specs.declared.tree.Decl.TheVariants as decls
use Rattle.kp_pipeline.specs.{Sequential.seq, Machine.Machine}
use Rattle.kp_pipeline.specs.{Timeline.no_samples, Timeline.waits, Timeline.moves_on, Timeline.next_number, Timeline.next_hold, Timeline.start_hold, Rows.bits}
use Rattle.kp_pipeline.proofs.Lists.{bits-same}
use Rattle.kp_seq.specs.{Running.Running, Running.state, Recorded.Recorded, Recorded.record_of}
use Rattle.kp_base.specs.declared.row.Row as masks
use Rattle.kp_sched.specs.Rows.{bit_of, row_seen}
use Rattle.kp_sites.specs.{Sites.Sited, Reports.HasRoom, Reports.nothing_recorded}
use Rattle.kp_sites.proofs.Sizes.{record_room}
use Rattle.kp_timing.specs.{Timed.IsPlain, Timed.stalled_by, declared.movement.Found.Found}
use Rattle.kp_timing.specs.inner.Deciding.{Held, record_in, moves_by, taken_down, found_down, no_stage_found}
use Rattle.kp_timing.specs.inner.Kept.{AreSites, IsKept, Advances}
use Rattle.kp_timing.proofs.Decisions.{AllFound, found, moves_is, nothing}
use Rattle.kp_timing.proofs.Moving.{taken_counts, hold_first, hold_taken, record_up, record_kept, all_came_from}

-- a job that counts no samples has none
sample_none : (ds : List Decl) → sum_by samples_in ds ≡ 0 → samples_of ds ≡ []
sample_none [] e = refl
sample_none (decls.Sample n width stage ∷ ds) e = let p = sum_by-cons samples_in (decls.Sample n width stage) ds in absurd (omega (arith, p, e))
sample_none (d ∷ ds) e = let p = sum_by-cons samples_in d ds in sample_none ds (omega (arith, p, e))

pub no_samples_declared : (job : Job) → (summary_of job).samples ≡ 0 → samples_of job.decls ≡ []
unfolding summary_of
no_samples_declared job e = sample_none job.decls e

pub stages_are : {job : Job} {s : Sited} → AreSites job s → s.stages ≡ job.stages.value
stages_are sites = ap (λ (s : Sited). s.stages) sites.is

pub rooms_taken : (job : Job) (b : List Bool) (d : ℕ) (h : Held) → d < length h.recorded → ((k : ℕ) → k < length h.recorded → HasRoom job (record_in h k))
    → (k : ℕ) → k < length h.recorded → HasRoom job (record_in (taken_down b d h) k)
rooms_taken job b d h l rooms k n = let from = all_came_from b d h k l n in subst (HasRoom job) (sym from.2) (rooms from.0 from.1)

module _ (job : Job) (start : Start) (cycles : ℕ) (m : Running) (s : Sited) (h : Held) (ext : ℕ) (k : IsKept job start cycles m s h) where
  abbrev machine : Machine
  machine = machine_of job

  abbrev begin : ℕ → ℕ → ℕ
  begin = state_of job start

  abbrev holds : ℕ → Option ℕ
  holds j = get_or h.hold j None

  abbrev newest : ℕ
  newest = unwrap_or (holds 0) 0

  abbrev pub f : Found
  f = found_down s h ext s.stages no_stage_found

  count : length job.blocks ≡ job.stages.value
  count = stages_inside job k.sites.rules

  all : AllFound job k.sites.names begin h ext k.recorded 0 f
  all =
      subst (λ (x : Sited). AllFound job k.sites.names begin h ext k.recorded 0 (found_down x h ext x.stages no_stage_found)) (sym k.sites.is)
      (found job k.sites.names begin h ext k.recorded count k.few)

  pub moves_same : (j : ℕ) → j < job.stages.value → moves_by h f.blocked j ≡ moves_on machine begin holds (stalled_by ext) j
  moves_same j l = moves_is job k.sites.names begin h ext k.recorded count k.few f j all l

  pub waits_same : (j : ℕ) → j < job.stages.value → get_or f.waits j false ≡ waits machine begin holds (stalled_by ext) j
  waits_same j l = all.waits j (omega arith) l

  pub waits_past : (j : ℕ) → job.stages.value ≤ j → get_or f.waits j false ≡ false
  waits_past = all.past_waits

  abbrev T : Held
  T = taken_down f.blocked (job.stages.value - 1) h

  inside : job.stages.value - 1 < length h.hold
  inside = let a = k.holds in let b = k.few in let c = k.some in omega arith

  within : job.stages.value - 1 < length h.recorded
  within = let a = k.flights in let c = k.some in omega arith

  later : (i : ℕ) → suc i < job.stages.value → get_or T.hold (suc i) None ≡ next_hold machine begin holds (stalled_by ext) (suc i)
  unfolding next_hold
  later i l =
      let z : i + 1 ≡ suc i = omega arith in
      let low : i < job.stages.value - 1 = omega arith in
      let here : i < job.stages.value = omega arith in
      ap (λ x. get_or T.hold x None) (sym z)
      ∙ hold_taken f.blocked (job.stages.value - 1) h i inside low
      ∙ ap (λ c. cond c (holds i) (cond (get_or f.blocked (i + 1) false) (holds (i + 1)) None)) (moves_same i here)
      ∙ ap (λ x. cond (moves_on machine begin holds (stalled_by ext) i) (holds i) (cond (get_or f.blocked x false) (holds x) None)) z
      ∙ ap (λ c. cond (moves_on machine begin holds (stalled_by ext) i) (holds i) (cond c (holds (suc i)) None)) (all.blocked (suc i) (omega arith) l)

  abbrev RecordedAt : Held → ℕ → ℕ → Type 0
  RecordedAt x j i = record_in x j ≡ record_of job (seq machine begin no_samples i) (λ y. 0)

  stay_full : (j : ℕ) (c : Bool) (i : ℕ) → get_or f.blocked (j + 1) false ≡ c → cond c (holds (j + 1)) None ≡ Some i
      → (holds (j + 1) ≡ Some i) × (moves_by h f.blocked (j + 1) ≡ false)
  stay_full j true i e is = (is, ap (λ b. is_some (holds (j + 1)) && not b) e ∙ and_right (is_some (holds (j + 1))) false refl)
  stay_full j false i e is = cc

  record_later : (j i : ℕ) → j + 1 < job.stages.value → get_or T.hold (j + 1) None ≡ Some i → RecordedAt T (j + 1) i
  record_later j i l e =
      let low : j < job.stages.value - 1 = omega arith in
      let here : j < job.stages.value = omega arith in
      let taken = hold_taken f.blocked (job.stages.value - 1) h j inside low in
      by_test (moves_by h f.blocked j)
      (λ going.
      let from : holds j ≡ Some i = ap (λ c. cond c (holds j) (cond (get_or f.blocked (j + 1) false) (holds (j + 1)) None)) (sym going) ∙ sym taken ∙ e in
      record_up f.blocked (job.stages.value - 1) h j within low going ∙ k.recorded j i here from)
      (λ still.
      let from : cond (get_or f.blocked (j + 1) false) (holds (j + 1)) None ≡ Some i =
      ap (λ c. cond c (holds j) (cond (get_or f.blocked (j + 1) false) (holds (j + 1)) None)) (sym still) ∙ sym taken ∙ e in
      let stays = stay_full j (get_or f.blocked (j + 1) false) i refl from in
      record_kept f.blocked (job.stages.value - 1) h (j + 1) within (omega arith)
      (λ x q. let is : x ≡ j = omega arith in ap (moves_by h f.blocked) is ∙ still) (inr stays.1)
      ∙ k.recorded (j + 1) i l stays.0)

  record_first : (i : ℕ) → moves_by h f.blocked 0 ≡ false → holds 0 ≡ Some i → RecordedAt T 0 i
  record_first i still e =
      record_kept f.blocked (job.stages.value - 1) h 0 within (omega arith) (λ x q. absurd (omega arith)) (inr still) ∙ k.recorded 0 i (let a = k.some in omega arith) e

  room_T : (j : ℕ) → j < job.stages.value → HasRoom job (record_in T j)
  room_T j l =
      let n = k.flights in
      rooms_taken job f.blocked (job.stages.value - 1) h within (λ x q. k.room x (omega arith)) j (omega arith)

  module _ (m2 : Running) (h2 : Held) (ad : Advances m h f.blocked job.stages.value m2 h2) where
    counts : (length h2.hold ≡ 12) × (length h2.recorded ≡ job.stages.value)
    counts = by_test (moves_by h f.blocked 0)
        (λ going.
        let e = (ad.moved going).held in
        let t = taken_counts f.blocked (job.stages.value - 1) h in
        (ap (λ (x : Held). length x.hold) e ∙ length-set T.hold 0 _ ∙ t.0 ∙ k.holds, ap (λ (x : Held). length x.recorded) e ∙ length-set T.recorded 0 m2.last ∙ t.1 ∙ k.flights))
        (λ still.
        let e = (ad.stayed still).1 in
        let t = taken_counts f.blocked (job.stages.value - 1) h in
        (ap (λ (x : Held). length x.hold) e ∙ t.0 ∙ k.holds, ap (λ (x : Held). length x.recorded) e ∙ t.1 ∙ k.flights))

    first_T : get_or T.hold 0 None ≡ Some newest
    first_T = hold_first f.blocked (job.stages.value - 1) h ∙ k.newest

    first_moved : moves_by h f.blocked 0 ≡ true → get_or h2.hold 0 None ≡ Some (suc newest)
    first_moved going =
        let e = (ad.moved going).held in
        let t = (taken_counts f.blocked (job.stages.value - 1) h).0 in
        let n = k.holds in
        let more : newest + 1 ≡ suc newest = omega arith in
        ap (λ (x : Held). get_or x.hold 0 None) e
        ∙ get_or-set_same T.hold 0 (Some (unwrap_or (get_or T.hold 0 None) 0 + 1)) None (omega arith)
        ∙ ap (λ o. Some (unwrap_or o 0 + 1)) first_T ∙ ap Some more

    first_stayed : moves_by h f.blocked 0 ≡ false → get_or h2.hold 0 None ≡ Some newest
    first_stayed still = ap (λ (x : Held). get_or x.hold 0 None) (ad.stayed still).1 ∙ first_T

    hold_other_of : (j : ℕ) → get_or h2.hold (suc j) None ≡ get_or T.hold (suc j) None
    hold_other_of j = by_test (moves_by h f.blocked 0)
        (λ going. ap (λ (x : Held). get_or x.hold (suc j) None) (ad.moved going).held ∙ get_or-set_other T.hold 0 (suc j) _ None (λ q. omega arith))
        (λ still. ap (λ (x : Held). get_or x.hold (suc j) None) (ad.stayed still).1)

    pub hold_next : (j : ℕ) → j < job.stages.value → get_or h2.hold j None ≡ next_hold machine begin holds (stalled_by ext) j
    unfolding next_hold
    hold_next zero l = by_test (moves_by h f.blocked 0)
        (λ going.
        first_moved going ∙ ap next_number (sym k.newest)
        ∙ ap (λ c. cond c (next_number (holds 0)) (holds 0)) (sym going ∙ moves_same 0 l))
        (λ still. first_stayed still ∙ sym k.newest ∙ ap (λ c. cond c (next_number (holds 0)) (holds 0)) (sym still ∙ moves_same 0 l))
    hold_next (suc j) l = hold_other_of j ∙ later j l

    record_other_of : (j : ℕ) → record_in h2 (suc j) ≡ record_in T (suc j)
    record_other_of j = by_test (moves_by h f.blocked 0)
        (λ going. ap (λ (x : Held). record_in x (suc j)) (ad.moved going).held ∙ get_or-set_other T.recorded 0 (suc j) m2.last _ (λ q. omega arith))
        (λ still. ap (λ (x : Held). record_in x (suc j)) (ad.stayed still).1)

    ran : m2.last ≡ record_of m.job (state m) (λ x. 0) → m2.last ≡ record_of job (seq machine begin no_samples (suc newest)) (λ x. 0)
    ran e = e ∙ ap (λ x. record_of x (state m) (λ y. 0)) k.job_is ∙ ap (λ x. record_of job x (λ y. 0)) k.state_is

    pub record_next : (j i : ℕ) → j < job.stages.value → get_or h2.hold j None ≡ Some i → RecordedAt h2 j i
    record_next zero i l e = by_test (moves_by h f.blocked 0)
        (λ going.
        let t = (taken_counts f.blocked (job.stages.value - 1) h).1 in
        let n = k.flights in
        let o : Some (suc newest) ≡ Some i = sym (first_moved going) ∙ e in
        let is : suc newest ≡ i = cc in
        ap (λ (x : Held). record_in x 0) (ad.moved going).held ∙ get_or-set_same T.recorded 0 m2.last _ (omega arith)
        ∙ ran (ad.moved going).recorded ∙ ap (λ x. record_of job (seq machine begin no_samples x) (λ y. 0)) is)
        (λ still. ap (λ (x : Held). record_in x 0) (ad.stayed still).1 ∙ record_first i still (k.newest ∙ sym (first_stayed still) ∙ e))
    record_next (suc j) i l e =
        let z : j + 1 ≡ suc j = omega arith in
        let at : get_or T.hold (j + 1) None ≡ Some i = ap (λ x. get_or T.hold x None) z ∙ sym (hold_other_of j) ∙ e in
        record_other_of j ∙ ap (record_in T) (sym z) ∙ record_later j i (omega arith) at

    room_next : (j : ℕ) → j < job.stages.value → HasRoom job (record_in h2 j)
    room_next zero l = by_test (moves_by h f.blocked 0)
        (λ going.
        let t = (taken_counts f.blocked (job.stages.value - 1) h).1 in
        let n = k.flights in
        subst (HasRoom job) (sym (ap (λ (x : Held). record_in x 0) (ad.moved going).held ∙ get_or-set_same T.recorded 0 m2.last _ (omega arith) ∙ ran (ad.moved going).recorded))
        (record_room job (seq machine begin no_samples (suc newest)) (λ x. 0) count))
        (λ still. subst (HasRoom job) (sym (ap (λ (x : Held). record_in x 0) (ad.stayed still).1)) (room_T 0 l))
    room_next (suc j) l = subst (HasRoom job) (sym (record_other_of j)) (room_T (suc j) l)

    stepped : state m2 ≡ after_one m.job (state m) [] → state m2 ≡ seq machine begin no_samples (suc (suc newest))
    unfolding seq
    stepped e = e ∙ ap (λ x. after_one x (state m) []) k.job_is ∙ ap (λ x. after_one job x []) k.state_is

    pub kept_next : IsKept job start (cycles + 1) m2 s h2
    kept_next = by_test (moves_by h f.blocked 0)
        (λ going. kept_with (suc newest) (first_moved going) (stepped (ad.moved going).state_is) (let b = k.bound in omega arith))
        (λ still. kept_with newest (first_stayed still) ((ad.stayed still).0 ∙ k.state_is) (let b = k.bound in omega arith))
      where
        kept_with : (i : ℕ) → get_or h2.hold 0 None ≡ Some i → state m2 ≡ seq machine begin no_samples (suc i) → i ≤ cycles + 1 → IsKept job start (cycles + 1) m2 s h2
        kept_with i e st bound = record {
          plain = k.plain;
          sites = k.sites;
          few = k.few;
          some = k.some;
          few_reads = k.few_reads;
          few_results = k.few_results;
          holds = counts.0;
          flights = counts.1;
          room = room_next;
          job_is = ad.job ∙ k.job_is;
          newest = e ∙ ap (λ o. Some (unwrap_or o 0)) (sym e);
          bound = subst (λ o. unwrap_or o 0 ≤ cycles + 1) (sym e) bound;
          state_is = st ∙ ap (λ o. seq machine begin no_samples (suc (unwrap_or o 0))) (sym e);
          recorded = record_next;
        }

-- a row, bit by bit
pub row_shown : (n : ℕ) (row : masks.Row) (f u : ℕ → Bool) → ((j : ℕ) → j < n → bit_of row.full j ≡ f j) → ((j : ℕ) → j < n → bit_of row.ue j ≡ u j) → row.back ≡ 0
    → row_seen n row ≡ record { full = bits f n 0; ue = bits u n 0; back = 0 }
row_shown n row f u hf hu hb =
    ap (λ x. record { full = x; ue = bits (bit_of row.ue) n 0; back = row.back }) (bits-same (bit_of row.full) f n 0 (λ j l m. hf j (omega arith)))
    ∙ ap (λ x. record { full = bits f n 0; ue = x; back = row.back }) (bits-same (bit_of row.ue) u n 0 (λ j l m. hu j (omega arith)))
    ∙ ap (λ x. record { full = bits f n 0; ue = bits u n 0; back = x }) hb

pub few_stages : (job : Job) → broken_of job ≡ None → (2 ≤ job.stages.value) × (job.stages.value ≤ 12)
few_stages job kept =
    let all = stages_kept (facts_of job) job (rules_kept job kept) in
    (all.0, all.1)

-- after opening, stage 0 contains instruction 0, which the machine has executed
abbrev pub first_hold : List (Option ℕ)
first_hold = set (replicate 12 None) 0 (Some 0)

record_only_first : (job : Job) (s : ℕ → ℕ → ℕ) (recorded : List Recorded) → get_or recorded 0 nothing_recorded ≡ record_of job s (λ x. 0) → (k i : ℕ) → get_or first_hold k None ≡ Some i
    → get_or recorded k nothing_recorded ≡ record_of job (seq (machine_of job) s no_samples i) (λ x. 0)
unfolding seq
record_only_first job s recorded e zero i is = let z : 0 ≡ i = cc in e ∙ ap (λ n. record_of job (seq (machine_of job) s no_samples n) (λ x. 0)) z
record_only_first job s recorded e (suc k) i is = let z : None ≡ Some i = sym (nothing None 11 k) ∙ is in cc

pub kept_first : (job : Job) (start : Start) (m : Running) (sited : Sited) (recorded : List Recorded) → IsPlain job → AreSites job sited → (summary_of job).reads < 2 ^ 32 → (summary_of job).results < 2 ^ 32
    → length recorded ≡ job.stages.value → ((k : ℕ) → k < job.stages.value → HasRoom job (get_or recorded k nothing_recorded)) → m.job ≡ job → state m ≡ after_one job (state_of job start) []
    → get_or recorded 0 nothing_recorded ≡ record_of job (state_of job start) (λ x. 0) → IsKept job start 0 m sited (record { hold = first_hold; recorded = recorded })
unfolding seq
kept_first job start m sited recorded plain sites reads results count room is st e =
    let few = few_stages job sites.rules in
    let low = few.0 in
    record {
      plain = plain;
      sites = sites;
      few = few.1;
      some = omega arith;
      few_reads = reads;
      few_results = results;
      holds = refl;
      flights = count;
      room = room;
      job_is = is;
      newest = refl;
      bound = omega arith;
      state_is = st;
      recorded = λ k i l h. record_only_first job (state_of job start) recorded e k i h;
    }

-- the timeline that was opened: the machine was opened, and executed instruction 0
pub kept_opened : (job : Job) (start : Start) (m0 m : Running) (sited : Sited) (recorded : List Recorded) → IsPlain job → AreSites job sited
    → (summary_of job).reads < 2 ^ 32 → (summary_of job).results < 2 ^ 32 → length recorded ≡ job.stages.value
    → ((k : ℕ) → k < job.stages.value → HasRoom job (get_or recorded k nothing_recorded)) → m0.job ≡ job → state m0 ≡ state_of job start
    → m.job ≡ m0.job → state m ≡ after_one m0.job (state m0) [] → m.last ≡ record_of m0.job (state m0) (λ x. 0)
    → IsKept job start 0 m sited (record { hold = first_hold; recorded = set recorded 0 m.last })
kept_opened job start m0 m sited recorded plain sites reads results count room is0 st0 is st e =
    let few = few_stages job sites.rules in
    let blocks = stages_inside job sites.rules in
    let run : state m ≡ after_one job (state_of job start) [] = st ∙ ap (λ (x : Job). after_one x (state m0) []) is0 ∙ ap (λ x. after_one job x []) st0 in
    let record_is : m.last ≡ record_of job (state_of job start) (λ x. 0) = e ∙ ap (λ (x : Job). record_of x (state m0) (λ y. 0)) is0 ∙ ap (λ x. record_of job x (λ y. 0)) st0 in
    let first : get_or (set recorded 0 m.last) 0 nothing_recorded ≡ m.last = get_or-set_same recorded 0 m.last nothing_recorded (omega (arith, count, few.0)) in
    kept_first job start m sited (set recorded 0 m.last) plain sites reads results (length-set recorded 0 m.last ∙ count)
    (λ k l. rooms k l first (subst (HasRoom job) (sym record_is) (record_room job (state_of job start) (λ x. 0) blocks))) (is ∙ is0) run (first ∙ record_is)
  where
    rooms : (k : ℕ) → k < job.stages.value → get_or (set recorded 0 m.last) 0 nothing_recorded ≡ m.last → HasRoom job m.last → HasRoom job (get_or (set recorded 0 m.last) k nothing_recorded)
    rooms zero l first here = subst (HasRoom job) (sym first) here
    rooms (suc k) l first here = subst (HasRoom job) (sym (get_or-set_other recorded 0 (suc k) m.last nothing_recorded (λ q. omega arith))) (room (suc k) l)

-- after the instructions have moved on, the next one can be executed
pub record CanFetch (job : Job) (h h2 : Held) : Type 0 where
  pub hold : length h2.hold ≡ 12
  pub flights : 1 ≤ length h2.recorded
  pub room : HasRoom job (record_in h2 0)
  pub first : get_or h2.hold 0 None ≡ get_or h.hold 0 None

pub can_fetch : (job : Job) (b : List Bool) (n : ℕ) (h h2 : Held) → h2 ≡ taken_down b (n - 1) h → length h.hold ≡ 12 → length h.recorded ≡ n → 1 ≤ n
    → ((k : ℕ) → k < n → HasRoom job (record_in h k)) → CanFetch job h h2
can_fetch job b n h h2 e hold recorded some rooms =
    let t = taken_counts b (n - 1) h in
    let c : length h2.recorded ≡ n = ap (λ (x : Held). length x.recorded) e ∙ t.1 ∙ recorded in
    record {
      hold = ap (λ (x : Held). length x.hold) e ∙ t.0 ∙ hold;
      flights = omega (arith, c, some);
      room = subst (λ (x : Held). HasRoom job (record_in x 0)) (sym e)
          (rooms_taken job b (n - 1) h (omega (arith, recorded, some)) (λ k l. rooms k (omega (arith, l, recorded))) 0 (omega (arith, recorded, some)));
      first = ap (λ (x : Held). get_or x.hold 0 None) e ∙ hold_first b (n - 1) h;
    }

-- the first instruction can be executed
pub record CanRun (m : Running) (recorded : List Recorded) : Type 0 where
  pub samples : samples_of m.job.decls ≡ []
  pub flights : 1 ≤ length recorded
  pub room : HasRoom m.job (get_or recorded 0 nothing_recorded)
  pub reads : (summary_of m.job).reads < 2 ^ 32
  pub results : (summary_of m.job).results < 2 ^ 32
  pub blocks : length m.job.blocks ≡ m.job.stages.value

pub can_run : (job : Job) (m : Running) (recorded : List Recorded) → IsPlain job → broken_of job ≡ None → m.job ≡ job → length recorded ≡ job.stages.value
    → (summary_of job).reads < 2 ^ 32 → (summary_of job).results < 2 ^ 32 → ((k : ℕ) → k < job.stages.value → HasRoom job (get_or recorded k nothing_recorded)) → CanRun m recorded
can_run job m recorded plain rules is count reads results room =
    let few = (few_stages job rules).0 in
    record {
      samples = subst (λ (x : Job). samples_of x.decls ≡ []) (sym is) (no_samples_declared job plain.samples);
      flights = omega (arith, few, count);
      room = subst (λ (x : Job). HasRoom x (get_or recorded 0 nothing_recorded)) (sym is) (room 0 (omega (arith, few)));
      reads = subst (λ (x : Job). (summary_of x).reads < 2 ^ 32) (sym is) reads;
      results = subst (λ (x : Job). (summary_of x).results < 2 ^ 32) (sym is) results;
      blocks = subst (λ (x : Job). length x.blocks ≡ x.stages.value) (sym is) (stages_inside job rules);
    }
