-- The result of a target, by its number: what is reported about it is what the timeline requests.
use Rattle.std.proofs.Common.{◌≡◌, ◌∙◌, ℕ, suc, ◌+◌, ◌<◌, ◌≤◌, List, [], ◌∷◌, Option, Some, None, Bool, true, false, cond, eqb, leb, ltb, not, ◌&&◌, ◌||◌, length, map, get_or, refl, ap, sym, subst, arith}
use Rattle.std.proofs.lemmas.{Bool.eqb-true, Option.get_or_from_slice_get, Option.slice_get-map}
use Rattle.std.specs.Prelude.{is_some, slice_get, option_map}
use Rattle.kp_ast.specs.declared.tree.{ResultDecl.ResultDecl, Decl.Decl, Job.Job}
use Rattle.kp_ast.specs.declared.tree.Decl.TheVariants as decls
use Rattle.kp_base.specs.First.{first}
use Rattle.kp_width.specs.Widths.{widths_of}
use Rattle.kp_pipeline.specs.{Sequential.before_stage, Sequential.seq, Timeline.first_stage, SpeculativeTimeline.setting_stage}
use Rattle.kp_pipeline.specs.SpeculativeTimeline as timeline
use Rattle.kp_machine.specs.Slots.{Slot, targets_of, pipes_of, number_of, result_to}
use Rattle.kp_machine.specs.Machine.{machine_of, result_for, write_stage_of, enabled_of, address_in, is_enabled_by, address_by}
use Rattle.kp_machine.proofs.{Cases.by_option, Text.fits_text, Text.target_slot}
use Rattle.kp_seq.specs.Recorded.{Recorded, where_true, results_of, write_recorded, setting_recorded, record_of}
use Rattle.kp_sites.specs.{declared.sites.Writer.Writer, Sites.result_number, Reports.wrote_at, Reports.may_write, Reports.is_ready}

-- if the number of a result is found, the result is found
pub record IsResult (job : Job) (t i : ℕ) : Type 0 where
  pub result : ResultDecl
  pub first : result_for job t ≡ Some result
  pub there : slice_get (results_of job.decls) i ≡ Some result
  pub target : number_of (targets_of job.decls) result.target.name ≡ t

record Numbered (targets : List Slot) (ds : List Decl) (i t j : ℕ) : Type 0 where
  result : ResultDecl
  first : result_to targets ds t ≡ Some result
  later : ℕ
  place : j ≡ i + later
  there : slice_get (results_of ds) later ≡ Some result
  target : number_of targets result.target.name ≡ t

one_number : (targets : List Slot) (ds : List Decl) (q : ResultDecl) (i t j : ℕ) (b : Bool) → eqb (number_of targets q.target.name) t ≡ b
    → cond b (Some i) (result_number targets ds (i + 1) t) ≡ Some j
    → (result_number targets ds (i + 1) t ≡ Some j → Numbered targets ds (i + 1) t j)
    → Numbered targets (decls.Target q ∷ ds) i t j
one_number targets ds q i t j true same e more =
    let n : i ≡ j = cc in
    let m : i ≡ i + 0 = omega arith in
    record {
      result = q;
      first = ap (λ c. cond c (Some q) (result_to targets ds t)) same;
      later = 0;
      place = sym n ∙ m;
      there = refl;
      target = eqb-true (number_of targets q.target.name) t same;
    }
one_number targets ds q i t j false same e more =
    let h = more e in
    let p = h.place in
    record {
      result = h.result;
      first = ap (λ c. cond c (Some q) (result_to targets ds t)) same ∙ h.first;
      later = suc h.later;
      place = let l : ℕ = h.later in omega arith;
      there = h.there;
      target = h.target;
    }

numbered : (targets : List Slot) (ds : List Decl) (i t j : ℕ) → result_number targets ds i t ≡ Some j → Numbered targets ds i t j
numbered targets [] i t j e = cc
numbered targets (decls.Target q ∷ ds) i t j e =
    one_number targets ds q i t j (eqb (number_of targets q.target.name) t) refl e (numbered targets ds (i + 1) t j)
numbered targets (_ ∷ ds) i t j e =
    let h = numbered targets ds i t j e in
    record { result = h.result; first = h.first; later = h.later; place = h.place; there = h.there; target = h.target }

pub is_result : (job : Job) (t i : ℕ) → result_number (targets_of job.decls) job.decls 0 t ≡ Some i → IsResult job t i
unfolding result_for
is_result job t i e =
    let h = numbered (targets_of job.decls) job.decls 0 t i e in
    let p = h.place in
    let l : ℕ = h.later in
    let same : l ≡ i = omega arith in
    record { result = h.result; first = h.first; there = subst (λ n. slice_get (results_of job.decls) n ≡ Some h.result) same h.there; target = h.target }

-- and if none is found, there is no result
unnumbered_by : (b : Bool) (i : ℕ) (q : ResultDecl) (o : Option ℕ) (r : Option ResultDecl) → (o ≡ None → r ≡ None) → cond b (Some i) o ≡ None → cond b (Some q) r ≡ None
unnumbered_by true i q o r h e = cc
unnumbered_by false i q o r h e = h e

unnumbered : (targets : List Slot) (ds : List Decl) (i t : ℕ) → result_number targets ds i t ≡ None → result_to targets ds t ≡ None
unnumbered targets [] i t e = refl
unnumbered targets (decls.Target q ∷ ds) i t e =
    unnumbered_by (eqb (number_of targets q.target.name) t) i q (result_number targets ds (i + 1) t) (result_to targets ds t) (unnumbered targets ds (i + 1) t) e
unnumbered targets (_ ∷ ds) i t e = unnumbered targets ds i t e

pub no_result : (job : Job) (t : ℕ) → result_number (targets_of job.decls) job.decls 0 t ≡ None → result_for job t ≡ None
unfolding result_for
no_result job t e = unnumbered (targets_of job.decls) job.decls 0 t e

-- as for a number that no target has
pub past_targets : (job : Job) → first (widths_of job).asked ≡ None → (t : ℕ) → length (targets_of job.decls) ≤ t → result_for job t ≡ None
unfolding result_for
past_targets job names t l = by_option (result_to (targets_of job.decls) job.decls t) (λ e. e)
    (λ r e.
    let f = fits_text job names t r e in
    let i : number_of (targets_of job.decls) r.target.name < length (targets_of job.decls) = (target_slot job names r f.0).inside in
    let n = f.1 in
    absurd (omega (arith, i, n, l)))

wrote : (b : Bool) (c a : ℕ) → (b && eqb c a) ≡ wrote_at (where_true b c) a
wrote true c a = refl
wrote false c a = refl

module _ (job : Job) (s : ℕ → ℕ → ℕ) (given : ℕ → ℕ → ℕ) (k t i n : ℕ) (recorded : Recorded) where
  -- instruction n, about which this is reported
  abbrev at_start : ℕ → ℕ → ℕ
  at_start = seq (machine_of job) s given n

  module _ (is : IsResult job t i) (record_is : recorded ≡ record_of job at_start (given n)) where
    abbrev writer : Writer
    writer = record { result = i; write = (machine_of job).write_stage t; known = (machine_of job).known_from t }

    -- what is reported of each result, by its number
    of_result : {X : Type 0} (f : ResultDecl → X) (d : X) → get_or (map f (results_of job.decls)) i d ≡ f is.result
    of_result f d =
        get_or_from_slice_get (map f (results_of job.decls)) i (f is.result) d (slice_get-map f (results_of job.decls) i ∙ ap (option_map f) is.there)

    pub writes_same : (a : ℕ) → timeline.may_write (machine_of job) s given k (Some n) t a ≡ may_write writer recorded k a
    unfolding machine_of record_of
    writes_same a =
        let pipes = (before_stage (machine_of job) at_start (given n) job.stages.value).pipes in
        let r = is.result in
        let here : get_or recorded.writes i None ≡ write_recorded job pipes r = ap (λ (x : Recorded). get_or x.writes i None) record_is ∙ of_result (write_recorded job pipes) None in
        ap (λ o. not (leb ((machine_of job).known_from t) k) || (is_some o && (enabled_of (pipes_of job.decls) pipes o && eqb (address_in (pipes_of job.decls) pipes o) a))) is.first
        ∙ ap (λ b. not (leb ((machine_of job).known_from t) k) || b)
        (wrote (is_enabled_by (pipes_of job.decls) pipes r.enable) (address_by (pipes_of job.decls) pipes r.address) a ∙ sym (ap (λ o. wrote_at o a) here))

    pub ready_same : (blocked : Bool) → timeline.is_ready (machine_of job) s given k (Some n) blocked t ≡ is_ready writer recorded k (not blocked)
    unfolding machine_of record_of setting_stage setting_recorded
    ready_same blocked =
        let r = is.result in
        let here : get_or recorded.settings i 0 ≡ setting_recorded job at_start (given n) r =
        ap (λ (x : Recorded). get_or x.settings i 0) record_is ∙ of_result (setting_recorded job at_start (given n)) 0 in
        let stage : setting_stage (machine_of job) at_start (given n) t ≡ setting_recorded job at_start (given n) r =
        ap (λ o. first_stage (λ j. is_some ((before_stage (machine_of job) at_start (given n) (suc j)).results t)) job.stages.value 0 (write_stage_of o)) is.first
        ∙ ap (λ y. first_stage (λ j. is_some ((before_stage (machine_of job) at_start (given n) (suc j)).results y)) job.stages.value 0 r.stage.value) (sym is.target) in
        ap (λ y. leb ((machine_of job).known_from t) k && (ltb y k || (eqb y k && not blocked))) (stage ∙ sym here)
