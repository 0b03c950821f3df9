-- Each list of inputs has no reset, or a last one. From there on a netlist shows the pipeline that starts with the state after the reset.
use Rattle.std.proofs.Common.{◌≡◌, ◌∙◌, ℕ, suc, ◌+◌, ◌<◌, ◌≤◌, ◌⊎◌, inl, inr, Bool, true, false, List, [], ◌∷◌, ◌++◌, drop, length, get_or, refl, ap, sym, subst, arith, ⊎_elim, zero-add}
use Rattle.std.proofs.lemmas.Bool.{cases_Bool, cases_lt, cond-true, cond-false, false≢true}
use Rattle.std.proofs.lemmas.List.{get_or_past, drop-map, length-append, length-drop, length-map, Elements.All-nil, Elements.All-cons}
use Rattle.kp_ast.specs.declared.tree.Job.{Job}
use Rattle.kp_pipeline.{specs.Pipeline.pipeline_start, specs.Rows.Row, specs.Rows.pipe, proofs.Taken.rows-length}
use Rattle.kp_stage.specs.Start.{start_of}
use Rattle.kp_machine.specs.{Machine.machine_of, Machine.state_of, Machine.start_hints, Slots.targets_of, Slots.is_register, Words.no_slot, Words.target}
use Rattle.kp_net.specs.Netlist.{Net, Input, State, start_of as net_start, state_after, states_from, rows_from, last_of}
use Rattle.kp_sched.specs.{Rows.row_seen, Rows.rows_seen, Runs.ShowsAlike}
use Rattle.kp_implements.specs.{Naming.value_shown, Shows.Shows, Traces.trace_of, Traces.no_state, Traces.input_seen, Traces.inputs_seen, Traces.AreQuiet}
use Rattle.kp_implements.specs.{Anew.trace_from, Anew.left_by_reset, Anew.BeginsAnew, Cuts.counted_on, Cuts.to_reset, Cuts.since, Cuts.begins_with}
use Rattle.kp_implements.proofs.Cutting.{rows_behind, states_behind, state_last, state_there}

-- the inputs up to the last reset, and those after it
pub record Parted (ins : List Input) : Type 0 where
  pub before : List Input
  pub raised : Input
  pub behind : List Input
  pub is : ins ≡ before ++ raised ∷ behind
  pub resets : raised.reset ≡ true
  pub quiet : AreQuiet behind
  pub cut : to_reset ins ≡ suc (length before)

pub record Whole (ins : List Input) : Type 0 where
  pub quiet : AreQuiet ins
  pub cut : to_reset ins ≡ 0

one_more : (i : Input) (ins : List Input) → Whole ins ⊎ Parted ins → Whole (i ∷ ins) ⊎ Parted (i ∷ ins)
one_more i ins (inl w) = ⊎_elim
    (λ (r : i.reset ≡ true).
    let e : to_reset (i ∷ ins) ≡ 1 = ap (λ (b : Bool). counted_on b (to_reset ins)) r ∙ ap (counted_on true) w.cut in
    inr (record { before = []; raised = i; behind = ins; is = refl; resets = r; quiet = w.quiet; cut = e }))
    (λ (r : i.reset ≡ false).
    let e : to_reset (i ∷ ins) ≡ 0 = ap (λ (b : Bool). counted_on b (to_reset ins)) r ∙ ap (counted_on false) w.cut in
    inl (record { quiet = All-cons (λ (j : Input). j.reset ≡ false) i ins r w.quiet; cut = e }))
    (cases_Bool i.reset)
one_more i ins (inr p) =
    inr (record { before = i ∷ p.before; raised = p.raised; behind = p.behind; is = ap (λ (l : List Input). i ∷ l) p.is; resets = p.resets; quiet = p.quiet; cut = ap (counted_on i.reset) p.cut })

pub parted : (ins : List Input) → Whole ins ⊎ Parted ins
parted [] = inl (record { quiet = All-nil (λ (j : Input). j.reset ≡ false); cut = refl })
parted (i ∷ ins) = one_more i ins (parted ins)

-- up to the last reset there are some inputs, and after it those without resets
behind_is : (before : List Input) (i : Input) (ins : List Input) → drop (suc (length before)) (before ++ i ∷ ins) ≡ ins
behind_is [] i ins = refl
behind_is (j ∷ before) i ins = behind_is before i ins

parted_behind : (ins : List Input) (p : Parted ins) → drop (to_reset ins) ins ≡ p.behind
parted_behind ins p =
    ap (λ (n : ℕ). drop n ins) p.cut ∙ ap (drop (suc (length p.before))) p.is ∙ behind_is p.before p.raised p.behind

pub quiet_behind : (ins : List Input) → AreQuiet (drop (to_reset ins) ins)
quiet_behind ins = ⊎_elim
    (λ (w : Whole ins). subst (λ (n : ℕ). AreQuiet (drop n ins)) (sym w.cut) w.quiet)
    (λ (p : Parted ins). subst AreQuiet (sym (parted_behind ins p)) p.quiet)
    (parted ins)

pub reset_there : (ins : List Input) (n : ℕ) → to_reset ins ≡ suc n
    → (before : List Input) × (i : Input) × (ins ≡ before ++ i ∷ drop (to_reset ins) ins) × (n ≡ length before) × (i.reset ≡ true)
reset_there ins n e = ⊎_elim
    (λ (w : Whole ins). absurd (omega (arith, e, w.cut)))
    (λ (p : Parted ins).
    (p.before, p.raised, p.is ∙ ap (λ (l : List Input). p.before ++ p.raised ∷ l) (sym (parted_behind ins p)), omega (arith, e, p.cut), p.resets))
    (parted ins)

-- the last state is that after the inputs without resets
within : (ins : List Input) → to_reset ins ≤ length ins
within ins = ⊎_elim
    (λ (w : Whole ins). omega (arith, w.cut))
    (λ (p : Parted ins). omega (arith, p.cut, ap length p.is, length-append p.before (p.raised ∷ p.behind)))
    (parted ins)

pub last_shown : (net : Net) (job : Job) (ins : List Input) (t a : ℕ)
    → (since (to_reset ins) (trace_of job net ins)).visible (length (drop (to_reset ins) ins)) t a ≡ value_shown job net (last_of net ins) t a
unfolding trace_of
last_shown net job ins t a =
    let e : to_reset ins + length (drop (to_reset ins) ins) ≡ length ins = omega (arith, length-drop (to_reset ins) ins, within ins) in
    ap (λ (n : ℕ). value_shown job net (get_or (states_from net (net_start net) ins) n no_state) t a) e
    ∙ ap (λ (st : State). value_shown job net st t a) (state_last net (net_start net) ins no_state)

-- what a reset leaves depends on the words of files alone, and a target that is a file is there
file_there : (job : Job) (t : ℕ) → is_register (target job t) ≡ false → t < length (targets_of job.decls)
file_there job t e = ⊎_elim
    (λ (l : t < length (targets_of job.decls)). l)
    (λ (l : length (targets_of job.decls) ≤ t). absurd (false≢true (sym e ∙ ap is_register (get_or_past (targets_of job.decls) t no_slot l))))
    (cases_lt t (length (targets_of job.decls)))

pub left_alike : (job : Job) (v w : ℕ → ℕ → ℕ) → ((t a : ℕ) → t < length (targets_of job.decls) → is_register (target job t) ≡ false → v t a ≡ w t a)
    → left_by_reset job v ≡ left_by_reset job w
left_alike job v w same = λ i t a. at_word t a i
  where
    at_word : (t a : ℕ) → left_by_reset job v t a ≡ left_by_reset job w t a
    at_word t a = ⊎_elim
        (λ (e : is_register (target job t) ≡ true). cond-true (is_register (target job t)) _ _ e ∙ sym (cond-true (is_register (target job t)) _ _ e))
        (λ (e : is_register (target job t) ≡ false).
        cond-false (is_register (target job t)) (state_of job (start_of job) t a) (v t a) e ∙ same t a (file_there job t e) e
        ∙ sym (cond-false (is_register (target job t)) (state_of job (start_of job) t a) (w t a) e))
        (cases_Bool (is_register (target job t)))

module _ (net : Net) (job : Job) (shows : Shows net job) (begins : BeginsAnew net job) where
  -- the run from cycle n on, if it restarts there
  abbrev pub ShownFrom : ℕ → List Input → Type 0
  ShownFrom n ins =
      ShowsAlike job (since n (trace_of job net ins)) (pipe (machine_of job) (begins_with job (trace_of job net ins) n) (start_hints job) (inputs_seen job (drop n ins)))

  at_first : (ins : List Input) → AreQuiet ins → ShownFrom 0 ins
  at_first ins q =
      let h = shows.runs ins q in
      record { rows = h.rows; values = λ T t x l w. ap (λ (n : ℕ). (trace_of job net ins).visible n t x) (zero-add T) ∙ h.values T t x l w }

  module _ (before : List Input) (i : Input) (ins : List Input) where
    abbrev whole : List Input
    whole = before ++ i ∷ ins

    abbrev n : ℕ
    n = suc (length before)

    rows_since : (since n (trace_of job net whole)).rows ≡ (trace_from job net (state_after net i (last_of net before)) ins).rows
    unfolding trace_of trace_from
    rows_since = drop-map (row_seen job.stages.value) n (rows_from net (net_start net) whole) ∙ ap (rows_seen job.stages.value) (rows_behind net (net_start net) before i ins)

    values_since : (T t x : ℕ) → (since n (trace_of job net whole)).visible T t x ≡ (trace_from job net (state_after net i (last_of net before)) ins).visible T t x
    unfolding trace_of trace_from
    values_since T t x = ap (λ (st : State). value_shown job net st t x) (states_behind net (net_start net) before i ins T no_state)

    left_then : left_by_reset job ((trace_of job net whole).visible (length before)) ≡ left_by_reset job (value_shown job net (last_of net before))
    unfolding trace_of
    left_then = ap (λ (st : State). left_by_reset job (value_shown job net st)) (state_there net (net_start net) before i ins no_state)

    behind_reset : i.reset ≡ true → AreQuiet ins → ShownFrom n whole
    behind_reset r q =
        let h = begins.runs (last_of net before) i ins (begins.memory before) r q in
        let own : ShowsAlike job (since n (trace_of job net whole)) (pipe (machine_of job) (left_by_reset job (value_shown job net (last_of net before))) (start_hints job) (inputs_seen job ins)) = record {
          rows = rows_since ∙ h.rows;
          values = λ T t x l w. values_since T t x ∙ h.values T t x (subst (λ (rows : List Row). T ≤ length rows) rows_since l) w;
        } in
        let from : ShowsAlike job (since n (trace_of job net whole)) (pipe (machine_of job) (begins_with job (trace_of job net whole) n) (start_hints job) (inputs_seen job ins)) =
        subst (λ (v : ℕ → ℕ → ℕ). ShowsAlike job (since n (trace_of job net whole)) (pipe (machine_of job) v (start_hints job) (inputs_seen job ins))) (sym left_then) own in
        subst (λ (l : List Input). ShowsAlike job (since n (trace_of job net whole)) (pipe (machine_of job) (begins_with job (trace_of job net whole) n) (start_hints job) (inputs_seen job l)))
        (sym (behind_is before i ins)) from

  -- WHATEVER COMES IN, with resets wherever they are raised
  pub shown_anew : (ins : List Input) → ShownFrom (to_reset ins) ins
  shown_anew ins = ⊎_elim
      (λ (w : Whole ins). subst (λ (n : ℕ). ShownFrom n ins) (sym w.cut) (at_first ins w.quiet))
      (λ (p : Parted ins). subst (λ (n : ℕ). ShownFrom n ins) (sym p.cut)
      (subst (λ (l : List Input). ShownFrom (suc (length p.before)) l) (sym p.is) (behind_reset p.before p.raised p.behind p.resets p.quiet)))
      (parted ins)

  -- a row for each input since then
  pub rows_many : (ins : List Input) → length (since (to_reset ins) (trace_of job net ins)).rows ≡ length (drop (to_reset ins) ins)
  rows_many ins =
      ap length (shown_anew ins).rows
      ∙ rows-length (machine_of job) (pipeline_start (begins_with job (trace_of job net ins) (to_reset ins)) (start_hints job)) (inputs_seen job (drop (to_reset ins) ins))
      ∙ length-map (drop (to_reset ins) ins) (input_seen job)
