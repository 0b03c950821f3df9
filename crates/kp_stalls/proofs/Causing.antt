-- A wait has its cause.
use Rattle.std.proofs.Common.{◌≡◌, ◌∙◌, ℕ, zero, suc, ◌+◌, ◌-◌, ◌<◌, ◌≤◌, List, Option, Some, None, Bool, true, false, cond, leb, not, ◌&&◌, length, get_or, refl, ap, sym, arith, ⊎_elim}
use Rattle.std.proofs.lemmas.{Bool.and_parts, Bool.and_right, Bool.cases_lt, Bool.false≢true, List.get_or_past, Option.same_Some}
use Rattle.std.specs.Prelude.{is_some}
use Rattle.kp_ast.specs.declared.tree.Job.{Job}
use Rattle.kp_base.specs.First.{first}
use Rattle.kp_width.specs.Widths.{widths_of}
use Rattle.kp_stage.specs.{Start.start_of, Stages.broken_of}
use Rattle.kp_pipeline.specs.{Accepted.Accepted, Machine.Machine, Pipeline.Inputs, Pipeline.is_candidate, Pipeline.outcome, Rows.Row, Rows.bit}
use Rattle.kp_pipeline.specs.{Sequential.instruction_before, Timeline.ReadyAbove, Timeline.some_unmet}
use Rattle.kp_pipeline.specs.SpeculativeTimeline.{blocked, blocked_given, moves_on, ready_above, ready_from, waits, waits_given}
use Rattle.kp_pipeline.specs.RightPath.{IsRightFrom, Moment, WaitsWhereItMust, held}
use Rattle.kp_pipeline.specs.SpeculativeTimeline as timeline
use Rattle.kp_machine.specs.{Slots.targets_of, Machine.machine_of, Machine.result_for, Machine.sequential, Machine.state_of}
use Rattle.kp_machine.proofs.Stages.{stages_inside}
use Rattle.kp_seq.specs.Recorded.{reads_from, record_of}
use Rattle.kp_sites.specs.declared.sites.{Site.Site, Writer.Writer}
use Rattle.kp_sites.specs.{Sites.no_site, Sites.result_number, Sites.sited, Sites.writer_at, Sites.writer_by, Reports.may_write}
use Rattle.kp_sites.proofs.{Asking.stage_unmet, Sizes.writer_get, Sizes.writers_many}
use Rattle.kp_sites.proofs.Results.{IsResult, is_result, no_result, past_targets, ready_same, writes_same}
use Rattle.kp_stalls.specs.declared.{occupants.Stage.Stage, cause.Wait.Wait}
use Rattle.kp_stalls.specs.Occupants.{Report, Seen, at, occupants_of, report, no_stage}
use Rattle.kp_stalls.specs.Causes.{first_wait, is_met, is_ready, is_source, nearest, nearest_above}
use Rattle.kp_stalls.specs.Claims.{IsCause, ShowsMoment, has_ready, is_writer, read_site}
use Rattle.kp_stalls.proofs.{OccupantFacts.report_at, OccupantFacts.stage_at, Waits.first_is, Waits.met_of, Waits.near_is, Waits.some_waits, Waits.wait_is}
use Rattle.kp_sites.specs.Reports as reports

-- ---- a moment
module _ (job : Job) (given : ℕ → ℕ → ℕ) (now : Moment) (i : Inputs) (r : Row) (stages : List Stage) (names : first (widths_of job).asked ≡ None) (rules : broken_of job ≡ None)
    (acc : Accepted (machine_of job)) (must : WaitsWhereItMust (machine_of job) (state_of job (start_of job)) given now i r) (shows : ShowsMoment (machine_of job) now r stages) where
  abbrev m : Machine
  m = machine_of job

  abbrev s : ℕ → ℕ → ℕ
  s = state_of job (start_of job)

  abbrev hold : ℕ → Option ℕ
  hold = held now

  abbrev occupants : List Seen
  occupants = occupants_of (report job given) stages

  abbrev from : ℕ → ℕ → ReadyAbove
  from d j = ready_from m s given hold i d j

  abbrev above : ℕ → ReadyAbove
  above j = ready_above m s given hold i j

  abbrev is_blocked : ℕ → Bool
  is_blocked j = blocked m s given hold i j

  count_is : job.stages.value ≡ m.stages
  unfolding machine_of
  count_is = refl

  full_is : (j : ℕ) → j < m.stages → (at occupants j).stage.full ≡ (now.state.stage j).full
  full_is j b = ap (λ (x : Stage). x.full) (stage_at (report job given) stages j) ∙ shows.full j b ∙ shows.row j b

  number_is : (j : ℕ) → j < m.stages → (at occupants j).stage.number ≡ now.count j
  number_is j b = ap (λ (x : Stage). x.number) (stage_at (report job given) stages j) ∙ shows.number j b

  report_is : (j : ℕ) → j < m.stages → (at occupants j).report ≡ report job given (now.count j)
  report_is j b = report_at (report job given) stages j no_stage (let c = shows.count in omega (arith, b, c)) ∙ ap (report job given) (shows.number j b)

  module _ (k : ℕ) (right : IsRightFrom m s given now i k) where
    right_above : (j : ℕ) → k ≤ j → IsRightFrom m s given now i j
    right_above j l x y b = right x (omega (arith, l, y)) b

    -- a full stage updates unless it is blocked
    moves_is : (j n : ℕ) → k ≤ j → j < m.stages → hold j ≡ Some n → (at occupants j).stage.moves ≡ not (is_blocked j)
    unfolding moves_on
    moves_is j n l b e =
        ap (λ (x : Stage). x.moves) (stage_at (report job given) stages j) ∙ shows.moves j b ∙ must.moves j b (right_above j l)
        ∙ ap (λ o. is_some o && not (is_blocked j)) e

    held_by : (j : ℕ) (x : Bool) → (now.state.stage j).full ≡ x → hold j ≡ cond x (Some (now.count j)) None
    held_by j x e = ap (λ b. cond b (Some (now.count j)) None) e

    above_is : (d j : ℕ) → d + suc j ≡ m.stages → above j ≡ from d (suc j)
    unfolding ready_above
    above_is d j e = let z : m.stages - suc j ≡ d = omega (arith, e) in ap (λ x. from x (suc j)) z

    blocked_is : (d j : ℕ) → d + suc j ≡ m.stages → blocked_given m s given hold i j (from d (suc j)) ≡ is_blocked j
    unfolding blocked
    blocked_is d j e = ap (blocked_given m s given hold i j) (sym (above_is d j e))

    -- a target that has a result
    module _ (t n : ℕ) (is : IsResult job t n) where
      abbrev by : Writer
      by = record { result = n; write = m.write_stage t; known = m.known_from t }

      has : m.has_result t ≡ true
      unfolding machine_of
      has = ap is_some is.first

      source_by : (j a : ℕ) (x : Bool) → j < m.stages → (now.state.stage j).full ≡ x → is_writer job given now t a j ≡ is_source occupants by a j
      source_by j a true b f =
          let e : hold j ≡ Some (now.count j) = held_by j true f in
          ap (λ o. is_candidate m j t && timeline.may_write m s given j o t a) e
          ∙ ap (λ c. (c && leb j (m.write_stage t)) && timeline.may_write m s given j (Some (now.count j)) t a) has
          ∙ ap (λ c. leb j (m.write_stage t) && c) (writes_same job s given j t n (now.count j) (at occupants j).report.recorded is (ap (λ (x : Report). x.recorded) (report_is j b)) a)
          ∙ sym (ap (λ c. c && (leb j (m.write_stage t) && may_write by (at occupants j).report.recorded j a)) (full_is j b ∙ f))
      source_by j a false b f =
          let e : hold j ≡ None = held_by j false f in
          ap (λ o. is_candidate m j t && timeline.may_write m s given j o t a) e ∙ and_right (is_candidate m j t) false refl
          ∙ sym (ap (λ c. c && (leb j (m.write_stage t) && may_write by (at occupants j).report.recorded j a)) (full_is j b ∙ f))

      source_is : (j a : ℕ) → j < m.stages → is_writer job given now t a j ≡ is_source occupants by a j
      source_is j a b = source_by j a (now.state.stage j).full b refl

      ready_is : (j : ℕ) → k ≤ j → j < m.stages → (now.state.stage j).full ≡ true → has_ready job given now i t j ≡ is_ready by (at occupants j) j
      ready_is j l b f =
          let e : hold j ≡ Some (now.count j) = held_by j true f in
          ap (λ o. timeline.is_ready m s given j o (is_blocked j) t) e
          ∙ ready_same job s given j t n (now.count j) (at occupants j).report.recorded is (ap (λ (x : Report). x.recorded) (report_is j b)) (is_blocked j)
          ∙ ap (reports.is_ready by (at occupants j).report.recorded j) (sym (moves_is j (now.count j) l b e))

      choose : (c : Bool) (x : Option ℕ) (w : Writer) (j : ℕ) → cond c (is_ready w (at occupants j) j) (is_met occupants w x) ≡ is_met occupants w (cond c (Some j) x)
      choose true x w j = refl
      choose false x w j = refl

      ready_at : (j : ℕ) (x : Bool) (y : Bool) (c : Bool) → k ≤ j → j < m.stages → (now.state.stage j).full ≡ x → (x ≡ false → c ≡ false) → cond c (has_ready job given now i t j) y ≡ cond c (is_ready by (at occupants j) j) y
      ready_at j true y c l b f none = ap (λ z. cond c z y) (ready_is j l b f)
      ready_at j false y c l b f none = ap (λ z. cond z (has_ready job given now i t j) y) (none refl) ∙ sym (ap (λ z. cond z (is_ready by (at occupants j) j) y) (none refl))

      no_source : (j a : ℕ) → j < m.stages → (now.state.stage j).full ≡ false → is_source occupants by a j ≡ false
      no_source j a b f = ap (λ c. c && (leb j by.write && may_write by (at occupants j).report.recorded j a)) (full_is j b ∙ f)

      met : (d j a : ℕ) → d + j ≡ m.stages → k ≤ j → (from d j).ready t a ≡ is_met occupants by (nearest occupants by a d j)
      unfolding ready_from
      met zero j a e l = refl
      met (suc d) j a e l =
          let b : j < m.stages = omega (arith, e) in
          let z : d + suc j ≡ m.stages = omega (arith, e) in
          let x = (from d (suc j)).ready t a in
          ap (λ c. cond (is_writer job given now t a j) (timeline.is_ready m s given j (hold j) c t) x) (blocked_is d j z)
          ∙ ap (λ c. cond c (has_ready job given now i t j) x) (source_is j a b)
          ∙ ready_at j (now.state.stage j).full x (is_source occupants by a j) l b refl (λ f. no_source j a b f)
          ∙ ap (λ y. cond (is_source occupants by a j) (is_ready by (at occupants j) j) y) (met d (suc j) a z (omega (arith, l)))
          ∙ choose (is_source occupants by a j) (nearest occupants by a d (suc j)) by j

    -- a target that has none
    unwritten : (t d j a : ℕ) → result_for job t ≡ None → (from d j).ready t a ≡ true
    unfolding ready_from machine_of
    unwritten t zero j a e = refl
    unwritten t (suc d) j a e =
        let x = (from d (suc j)).ready t a in
        ap (λ o. cond ((is_some o && leb j (m.write_stage t)) && timeline.may_write m s given j (hold j) t a)
        (timeline.is_ready m s given j (hold j) (blocked_given m s given hold i j (from d (suc j))) t) x) e
        ∙ unwritten t d (suc j) a e

    met_result : (t a d : ℕ) (o : Option ℕ) → d + suc k ≡ m.stages → result_number (targets_of job.decls) job.decls 0 t ≡ o
        → (from d (suc k)).ready t a ≡ met_of (sited job) occupants k (writer_by job t o) a
    met_result t a d None e is = unwritten t d (suc k) a (no_result job t is)
    met_result t a d (Some n) e is =
        let res = is_result job t n is in
        let z : job.stages.value - suc k ≡ d = omega (arith, e, count_is) in
        met t n res d (suc k) a e (omega arith) ∙ ap (λ x. is_met occupants (by t n res) (nearest occupants (by t n res) a x (suc k))) (sym z)

    read_met : (t a d : ℕ) → d + suc k ≡ m.stages → (above k).ready t a ≡ met_of (sited job) occupants k (get_or (sited job).writers t None) a
    read_met t a d e =
        ap (λ (x : ReadyAbove). x.ready t a) (above_is d k e)
        ∙ ⊎_elim
        (λ (l : t < length (targets_of job.decls)).
        met_result t a d (result_number (targets_of job.decls) job.decls 0 t) e refl
        ∙ ap (λ o. met_of (sited job) occupants k o a) (sym (writer_get job (length (targets_of job.decls)) t l)))
        (λ (l : length (targets_of job.decls) ≤ t).
        unwritten t d (suc k) a (past_targets job names t l)
        ∙ ap (λ o. met_of (sited job) occupants k o a) (sym (get_or_past (sited job).writers t None (let c = writers_many job (length (targets_of job.decls)) in omega (arith, c, l)))))
        (cases_lt t (length (targets_of job.decls)))

    -- a wait that is found is one by the timeline
    module _ (below : k < m.stages) where
      pub caused : (w : Wait) → first_wait (sited job) occupants k 0 (sited job).reads ≡ Some w → IsCause job given now i k w
      caused w e =
          let f = first_is (sited job) occupants k (sited job).reads 0 w e in
          let l : ℕ = f.later in
          let z : 0 + l ≡ l = omega arith in
          let x = wait_is (sited job) occupants k (0 + l) (get_or (sited job).reads l no_site) w (get_or (at occupants k).report.recorded.reads (0 + l) None) f.wait in
          let same : w.read ≡ l = x.read ∙ z in
          let site = read_site job w.read in
          let at_read : get_or (sited job).reads l no_site ≡ site = ap (λ y. get_or (sited job).reads y no_site) (sym same) in
          let target : get_or (sited job).writers site.target None ≡ Some x.by = ap (λ (y : Site). get_or (sited job).writers y.target None) (sym at_read) ∙ x.is_by in
          cause_of w x.by target (ap (λ (y : Site). y.stage) (sym at_read) ∙ x.own) (ap (λ (y : Site). y.guessed) (sym at_read) ∙ x.plain)
          (let b = f.there in omega (arith, b, same))
          (ap (λ (g : Report). get_or g.recorded.reads w.read None) (sym (report_is k below)) ∙ ap (λ y. get_or (at occupants k).report.recorded.reads y None) x.read ∙ x.asked)
          x.source x.unready x.number
        where
          by_result : (t : ℕ) (w : Wait) (b : Writer) (o : Option ℕ) → result_number (targets_of job.decls) job.decls 0 t ≡ o → writer_by job t o ≡ Some b
              → (y : ℕ) × (IsResult job t y × (record { result = y; write = m.write_stage t; known = m.known_from t } ≡ b))
          by_result t w b None is e = cc
          by_result t w b (Some y) is e = (y, (is_result job t y is, same_Some _ b e))

          declared : (t : ℕ) (b : Writer) → get_or (sited job).writers t None ≡ Some b → writer_at job t ≡ Some b
          declared t b e = ⊎_elim
              (λ (l : t < length (targets_of job.decls)). sym (writer_get job (length (targets_of job.decls)) t l) ∙ e)
              (λ (l : length (targets_of job.decls) ≤ t).
              let none = get_or_past (sited job).writers t None (let c = writers_many job (length (targets_of job.decls)) in omega (arith, c, l)) in
              let no : None ≡ Some b = sym none ∙ e in cc)
              (cases_lt t (length (targets_of job.decls)))

          cause_of : (w : Wait) (b : Writer) → get_or (sited job).writers (read_site job w.read).target None ≡ Some b → (read_site job w.read).stage ≡ k
              → (read_site job w.read).guessed ≡ false → w.read < length (sited job).reads
              → get_or (report job given (now.count k)).recorded.reads w.read None ≡ Some w.address → nearest_above (sited job) occupants b w.address k ≡ Some w.stage
              → is_ready b (at occupants w.stage) w.stage ≡ false → w.writer ≡ (at occupants w.stage).stage.number → IsCause job given now i k w
          cause_of w b is own plain there asked near unready number =
              let t = (read_site job w.read).target in
              let h = by_result t w b (result_number (targets_of job.decls) job.decls 0 t) refl (declared t b is) in
              let res = h.1.0 in
              let same = h.1.1 in
              let found = near_is occupants b w.address (job.stages.value - suc k) (suc k) w.stage near in
              let up : suc k ≤ w.stage = found.0.above in
              let within : w.stage < m.stages = (let x = found.1 in omega (arith, x, below, count_is)) in
              let source : is_source occupants (by t h.0 res) w.address w.stage ≡ true = ap (λ v. is_source occupants v w.address w.stage) same ∙ found.0.source in
              let stands : (now.state.stage w.stage).full ≡ true = sym (full_is w.stage within) ∙ (and_parts (at occupants w.stage).stage.full _ source).0 in
              record {
                there = there;
                own = own;
                plain = plain;
                asked = asked;
                above = omega (arith, up);
                within = within;
                number = held_by w.stage true stands ∙ ap (λ x. Some x) (sym (number_is w.stage within) ∙ sym number);
                writes = source_is t h.0 res w.stage w.address within ∙ source;
                unready = ready_is t h.0 res w.stage (omega (arith, up)) within stands ∙ ap (λ v. is_ready v (at occupants w.stage) w.stage) same ∙ unready;
                nearest = λ j l x.
                    source_is t h.0 res j w.address (omega (arith, x, within)) ∙ ap (λ v. is_source occupants v w.address j) same ∙ found.0.nothing j (omega (arith, l)) x;
              }

    module _ (below : k < m.stages) (full : bit r.full k ≡ true) (hazard : (outcome m now.state i k).hazard ≡ true)
        (settled : (x : ℕ) → m.sample_stage x ≡ k → i.samples x ≡ given (now.count k) x) where
      abbrev n : ℕ
      n = now.count k

      abbrev st : ℕ → ℕ → ℕ
      st = sequential job given n

      is_held : hold k ≡ Some n
      is_held = held_by k true (sym (shows.row k below) ∙ full)

      pipes : ℕ → ℕ
      pipes = (instruction_before m s given n k).pipes

      waiting : some_unmet (above k).ready st (m.body k i.samples (instruction_before m s given n k).pipes) ≡ true
      unfolding waits
      waiting =
          sym (ap (λ o. waits_given m s given i o k (above k)) is_held)
          ∙ sym (must.hazards k below right full) ∙ hazard

      body_is : m.body k i.samples (instruction_before m s given n k).pipes ≡ m.body k (given n) (instruction_before m s given n k).pipes
      body_is = acc.own_samples k i.samples (given n) (instruction_before m s given n k).pipes below settled

      count : length job.blocks ≡ job.stages.value
      count = stages_inside job rules

      reads_are : (at occupants k).report.recorded.reads ≡ reads_from job st (given n) (length job.blocks) 0
      unfolding record_of
      reads_are = ap (λ (f : Report). f.recorded.reads) (report_is k below) ∙ ap (λ x. reads_from job st (given n) x 0) (sym count)

      -- the tree of the stage requests a read that isn't ready, so one waits
      some : is_some (first_wait (sited job) occupants k 0 (sited job).reads) ≡ true
      some =
          some_waits (sited job) occupants k 0 (sited job).reads
          ∙ stage_unmet job st (given n) (λ t a. met_of (sited job) occupants k (get_or (sited job).writers t None) a) k (above k).ready
          (λ t a. read_met t a (m.stages - suc k) (omega (arith, below))) (at occupants k).report.recorded.reads reads_are (omega (arith, below, count, count_is))
          ∙ sym (ap (some_unmet (above k).ready st) body_is) ∙ waiting

      pub has_cause : (w : Wait) × (first_wait (sited job) occupants k 0 (sited job).reads ≡ Some w) × IsCause job given now i k w
      has_cause = go (first_wait (sited job) occupants k 0 (sited job).reads) refl
        where
          go : (o : Option Wait) → first_wait (sited job) occupants k 0 (sited job).reads ≡ o → (w : Wait) × (first_wait (sited job) occupants k 0 (sited job).reads ≡ Some w) × IsCause job given now i k w
          go None e = absurd (false≢true (sym (ap is_some e) ∙ some))
          go (Some w) e = (w, e, caused below w e)
