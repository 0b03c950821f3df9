-- The decisions on lists are those of the timeline of the laws.
use Rattle.std.proofs.Common.{◌≡◌, ◌∙◌, ℕ, zero, suc, ◌+◌, ◌-◌, ◌<◌, ◌≤◌, List, Option, Some, None, Bool, true, false, cond, leb, not, ◌&&◌, ◌||◌, length, get_or, set, replicate, refl, ap, sym, arith, ⊎_elim}
use Rattle.std.proofs.lemmas.{Bool.and_right, Bool.cases_eq, Bool.cases_lt, List.length-set, List.get_or_past, List.get_or-set_same, List.get_or-set_other}
use Rattle.std.specs.Prelude.{is_some}
use Rattle.kp_ast.specs.declared.tree.Job.{Job}
use Rattle.kp_width.{specs.Widths.widths_of, proofs.Unbroken.Unbroken}
use Rattle.kp_pipeline.specs.Sequential.{seq}
use Rattle.kp_pipeline.specs.Timeline.{ReadyAbove, setting_stage, no_samples, may_write, is_ready, waits_given, blocked_given, ready_from, ready_above, waits, blocked, moves_on}
use Rattle.kp_pipeline.specs.SpeculativeTimeline as timeline
use Rattle.kp_machine.specs.{Slots.targets_of, Machine.machine_of, Machine.result_for}
use Rattle.kp_seq.specs.Recorded.{Recorded, reads_from, record_of}
use Rattle.kp_sched.specs.Rows.{bit_of}
use Rattle.kp_sites.specs.{declared.sites.Writer.Writer, Sites.sited, Sites.result_number, Sites.writer_by}
use Rattle.kp_sites.proofs.{Asking.stage_unmet, Sizes.writer_get, Sizes.writers_many}
use Rattle.kp_sites.proofs.Results.{IsResult, is_result, no_result, past_targets, ready_same, writes_same}
use Rattle.kp_timing.specs.inner.Deciding.{Held, record_in, is_full, met_from, is_met, some_unmet_from, waits_by, is_blocked_by, found_at, found_down, no_stage_found, moves_by}
use Rattle.kp_timing.specs.{declared.movement.Found.Found, Timed.stalled_by}
use Rattle.kp_sites.specs.Reports as reports

-- nothing is stored
pub nothing : {X : Type 0} (x : X) (n j : ℕ) → get_or (replicate n x) j x ≡ x
nothing x zero j = refl
nothing x (suc n) zero = refl
nothing x (suc n) (suc j) = nothing x n j

module _ (job : Job) (unbroken : Unbroken (widths_of job)) (s : ℕ → ℕ → ℕ) (h : Held) (ext : ℕ) (record_is : (k i : ℕ) → k < job.stages.value → get_or h.hold k None ≡ Some i → record_in h k ≡ record_of job (seq (machine_of job) s no_samples i) (λ x. 0)) where
  abbrev hold : ℕ → Option ℕ
  hold k = get_or h.hold k None

  abbrev above : ℕ → ReadyAbove
  above k = ready_above (machine_of job) s hold (stalled_by ext) k

  abbrev from : ℕ → ℕ → ReadyAbove
  from d k = ready_from (machine_of job) s hold (stalled_by ext) d k

  abbrev is_blocked : ℕ → Bool
  is_blocked k = blocked (machine_of job) s hold (stalled_by ext) k

  abbrev is_waiting : ℕ → Bool
  is_waiting k = waits (machine_of job) s hold (stalled_by ext) k

  -- the stages from one on are blocked, or not
  abbrev BlockedFrom : List Bool → ℕ → Type 0
  BlockedFrom b k = (j : ℕ) → k ≤ j → j < job.stages.value → get_or b j false ≡ is_blocked j

  above_is : (d k : ℕ) → d + suc k ≡ job.stages.value → above k ≡ from d (suc k)
  unfolding ready_above machine_of
  above_is d k e = let z : job.stages.value - suc k ≡ d = omega arith in ap (λ x. from x (suc k)) z

  blocked_is : (d k : ℕ) → d + suc k ≡ job.stages.value → blocked_given (machine_of job) s hold (stalled_by ext) k (from d (suc k)) ≡ is_blocked k
  unfolding blocked
  blocked_is d k e = ap (blocked_given (machine_of job) s hold (stalled_by ext) k) (sym (above_is d k e))

  -- a target that has a result
  module _ (t i : ℕ) (is : IsResult job t i) where
    abbrev writer : Writer
    writer = record { result = i; write = (machine_of job).write_stage t; known = (machine_of job).known_from t }

    has : (machine_of job).has_result t ≡ true
    unfolding machine_of
    has = ap is_some is.first

    ready_plain : (k n : ℕ) (b : Bool) → is_ready (machine_of job) s k (Some n) b t ≡ timeline.is_ready (machine_of job) s no_samples k (Some n) b t
    unfolding setting_stage timeline.setting_stage
    ready_plain k n b = refl

    stage_met : (k a : ℕ) (o : Option ℕ) (b x : Bool) → hold k ≡ o → k < job.stages.value
        → cond (((machine_of job).has_result t && leb k ((machine_of job).write_stage t)) && may_write (machine_of job) s k o t a) (is_ready (machine_of job) s k o b t) x
        ≡ cond (is_some o && (leb k writer.write && reports.may_write writer (record_in h k) k a)) (reports.is_ready writer (record_in h k) k (not b)) x
    stage_met k a None b x e l = ap (λ c. cond c false x) (and_right ((machine_of job).has_result t && leb k ((machine_of job).write_stage t)) false refl)
    stage_met k a (Some n) b x e l =
        let t1 = record_is k n l e in
        ap (λ c. cond ((c && leb k ((machine_of job).write_stage t)) && may_write (machine_of job) s k (Some n) t a) (is_ready (machine_of job) s k (Some n) b t) x) has
        ∙ ap (λ c. cond (leb k writer.write && c) (is_ready (machine_of job) s k (Some n) b t) x) (writes_same job s no_samples k t i n (record_in h k) is t1 a)
        ∙ ap (λ c. cond (leb k writer.write && reports.may_write writer (record_in h k) k a) c x) (ready_plain k n b ∙ ready_same job s no_samples k t i n (record_in h k) is t1 b)

    met : (b : List Bool) (d k a : ℕ) → d + k ≡ job.stages.value → BlockedFrom b k → (from d k).ready t a ≡ met_from h b writer a d k
    unfolding ready_from
    met b zero k a e bl = refl
    met b (suc d) k a e bl =
        let l : k < job.stages.value = omega arith in
        let z : d + suc k ≡ job.stages.value = omega arith in
        let here : get_or b k false ≡ is_blocked k = bl k (omega arith) l in
        let x = (from d (suc k)).ready t a in
        ap (λ c. cond (((machine_of job).has_result t && leb k ((machine_of job).write_stage t)) && may_write (machine_of job) s k (hold k) t a) (is_ready (machine_of job) s k (hold k) c t) x) (blocked_is d k z ∙ sym here)
        ∙ stage_met k a (hold k) (get_or b k false) x refl l
        ∙ ap (λ y. cond (is_full h k && (leb k writer.write && reports.may_write writer (record_in h k) k a)) (reports.is_ready writer (record_in h k) k (not (get_or b k false))) y)
        (met b d (suc k) a z (λ j m n. bl j (omega arith) n))

  -- a target that has none
  unwritten : (t d k a : ℕ) → result_for job t ≡ None → (from d k).ready t a ≡ true
  unfolding ready_from machine_of
  unwritten t zero k a e = refl
  unwritten t (suc d) k a e =
      let x = (from d (suc k)).ready t a in
      ap (λ o. cond ((is_some o && leb k ((machine_of job).write_stage t)) && may_write (machine_of job) s k (hold k) t a)
      (is_ready (machine_of job) s k (hold k) (blocked_given (machine_of job) s hold (stalled_by ext) k (from d (suc k))) t) x) e
      ∙ unwritten t d (suc k) a e

  met_by : (b : List Bool) (k t a d : ℕ) (o : Option ℕ) → d + suc k ≡ job.stages.value → BlockedFrom b (suc k) → result_number (targets_of job.decls) job.decls 0 t ≡ o
      → (from d (suc k)).ready t a ≡ is_met (sited job) h b k (writer_by job t o) a
  met_by b k t a d None e bl is = unwritten t d (suc k) a (no_result job t is)
  met_by b k t a d (Some i) e bl is =
      let r = is_result job t i is in
      let z : job.stages.value - suc k ≡ d = omega arith in
      met t i r b d (suc k) a e bl ∙ ap (λ x. met_from h b (writer t i r) a x (suc k)) (sym z)

  -- a read of a target in stage k
  read_met : (b : List Bool) (k t a d : ℕ) → d + suc k ≡ job.stages.value → BlockedFrom b (suc k)
      → (above k).ready t a ≡ is_met (sited job) h b k (get_or (sited job).writers t None) a
  read_met b k t a d e bl =
      ap (λ (x : ReadyAbove). x.ready t a) (above_is d k e)
      ∙ ⊎_elim
      (λ (l : t < length (targets_of job.decls)).
      met_by b k t a d (result_number (targets_of job.decls) job.decls 0 t) e bl refl ∙ ap (λ o. is_met (sited job) h b k o a) (sym (writer_get job (length (targets_of job.decls)) t l)))
      (λ (l : length (targets_of job.decls) ≤ t).
      let c = writers_many job (length (targets_of job.decls)) in
      unwritten t d (suc k) a (past_targets job unbroken t l) ∙ ap (λ o. is_met (sited job) h b k o a) (sym (get_or_past (sited job).writers t None (omega (arith, c, l)))))
      (cases_lt t (length (targets_of job.decls)))

  -- the reads of the instruction in stage k
  module _ (b : List Bool) (k d : ℕ) (e : d + suc k ≡ job.stages.value) (bl : BlockedFrom b (suc k)) (count : length job.blocks ≡ job.stages.value) where
    waiting_by : (o : Option ℕ) → hold k ≡ o → (is_some o && some_unmet_from (sited job) h b k 0 (sited job).reads) ≡ waits_given (machine_of job) s o k (above k)
    unfolding record_of
    waiting_by None at = refl
    waiting_by (Some n) at =
        let start = seq (machine_of job) s no_samples n in
        let reads : (record_in h k).reads ≡ reads_from job start (λ x. 0) (length job.blocks) 0 =
        ap (λ (x : Recorded). x.reads) (record_is k n (omega arith) at) ∙ ap (λ i. reads_from job start (λ x. 0) i 0) (sym count) in
        stage_unmet job start (λ x. 0) (λ t a. is_met (sited job) h b k (get_or (sited job).writers t None) a) k (above k).ready (λ t a. read_met b k t a d e bl) (record_in h k).reads reads
        (omega arith)

    stage_waits : waits_by (sited job) h b k ≡ is_waiting k
    unfolding waits
    stage_waits = waiting_by (hold k) refl

  pub record AllFound (k : ℕ) (f : Found) : Type 0 where
    pub wait_count : length f.waits ≡ 12
    pub block_count : length f.blocked ≡ 13
    pub waits : (j : ℕ) → k ≤ j → j < job.stages.value → get_or f.waits j false ≡ is_waiting j
    pub blocked : BlockedFrom f.blocked k
    pub past_waits : (j : ℕ) → job.stages.value ≤ j → get_or f.waits j false ≡ false
    pub past_blocked : (j : ℕ) → job.stages.value ≤ j → get_or f.blocked j false ≡ false

  module _ (count : length job.blocks ≡ job.stages.value) (few : job.stages.value ≤ 12) where
    next_blocked : (f : Found) (k d : ℕ) → d + suc k ≡ job.stages.value → AllFound (suc k) f → get_or f.blocked (k + 1) false ≡ (above k).blocked
    unfolding ready_from
    next_blocked f k zero e a =
        let z : k + 1 ≡ suc k = omega arith in
        ap (λ i. get_or f.blocked i false) z ∙ a.past_blocked (suc k) (omega arith) ∙ sym (ap (λ (x : ReadyAbove). x.blocked) (above_is zero k e))
    next_blocked f k (suc d) e a =
        let z : k + 1 ≡ suc k = omega arith in
        let l : suc k < job.stages.value = omega arith in
        let y : d + suc (suc k) ≡ job.stages.value = omega arith in
        ap (λ i. get_or f.blocked i false) z ∙ a.blocked (suc k) (omega arith) l ∙ sym (blocked_is d (suc k) y) ∙ sym (ap (λ (x : ReadyAbove). x.blocked) (above_is (suc d) k e))

    block_is : (f : Found) (k d : ℕ) → d + suc k ≡ job.stages.value → AllFound (suc k) f → waits_by (sited job) h f.blocked k ≡ is_waiting k
        → is_blocked_by h ext f.blocked k (waits_by (sited job) h f.blocked k) ≡ is_blocked k
    unfolding blocked waits
    block_is f k d e a w =
        ap (λ c. is_some (hold k) && (c || (bit_of ext k || get_or f.blocked (k + 1) false))) w
        ∙ ap (λ c. is_some (hold k) && (is_waiting k || (bit_of ext k || c))) (next_blocked f k d e a)

    at_other : {X : Type 0} (xs : List X) (k j : ℕ) (x d y : X) → k < length xs → ((j ≡ k) → x ≡ y) → ((j ≡ k → ⊥) → get_or xs j d ≡ y) → get_or (set xs k x) j d ≡ y
    at_other xs k j x d y l here there = ⊎_elim
        (λ (is : j ≡ k). ap (λ i. get_or (set xs i x) j d) (sym is) ∙ get_or-set_same xs j x d (omega arith) ∙ here is)
        (λ ne. get_or-set_other xs k j x d ne ∙ there ne)
        (cases_eq j k)

    one_found : (f : Found) (k : ℕ) → k < job.stages.value → AllFound (suc k) f → AllFound k (found_at (sited job) h ext k f)
    one_found f k l a =
        let d = job.stages.value - suc k in
        let e : d + suc k ≡ job.stages.value = omega arith in
        let w = stage_waits f.blocked k d e a.blocked count in
        let c = a.wait_count in
        let b = a.block_count in
        let wv = waits_by (sited job) h f.blocked k in
        let bv = is_blocked_by h ext f.blocked k wv in
        record {
          wait_count = length-set f.waits k wv ∙ c;
          block_count = length-set f.blocked k bv ∙ b;
          waits = λ j m n. at_other f.waits k j wv false (is_waiting j) (omega (arith, c)) (λ q. w ∙ ap is_waiting (sym q)) (λ q. a.waits j (omega arith) n);
          blocked = λ j m n. at_other f.blocked k j bv false (is_blocked j) (omega (arith, b)) (λ q. block_is f k d e a w ∙ ap is_blocked (sym q)) (λ q. a.blocked j (omega arith) n);
          past_waits = λ j m. get_or-set_other f.waits k j wv false (λ q. omega arith) ∙ a.past_waits j m;
          past_blocked = λ j m. get_or-set_other f.blocked k j bv false (λ q. omega arith) ∙ a.past_blocked j m;
        }

    all_found : (k : ℕ) (f : Found) → k ≤ job.stages.value → AllFound k f → AllFound 0 (found_down (sited job) h ext k f)
    all_found zero f l a = a
    all_found (suc k) f l a = all_found k (found_at (sited job) h ext k f) (omega arith) (one_found f k (omega arith) a)

    pub found : AllFound 0 (found_down (sited job) h ext job.stages.value no_stage_found)
    found = all_found job.stages.value no_stage_found (omega arith) (record {
      wait_count = refl;
      block_count = refl;
      waits = λ j m n. absurd (omega arith);
      blocked = λ j m n. absurd (omega arith);
      past_waits = λ j m. nothing false 12 j;
      past_blocked = λ j m. nothing false 13 j;
    })

    pub moves_is : (f : Found) (k : ℕ) → AllFound 0 f → k < job.stages.value → moves_by h f.blocked k ≡ moves_on (machine_of job) s hold (stalled_by ext) k
    unfolding moves_on
    moves_is f k a l = ap (λ c. is_some (hold k) && not c) (a.blocked k (omega arith) l)
