-- The dump of a job that violates no rule is one that a text can denote.
use Rattle.std.proofs.Common.{◌≡◌, ℕ, zero, suc, ◌+◌, ◌*◌, ◌<◌, ◌≤◌, ◌^◌, List, [], ◌∷◌, ◌++◌, length, get_or, Bool, true, false, ◌&&◌, None, refl, ap, subst, arith, map}
use Rattle.std.{proofs.Math.Nat.pow-suc, proofs.lemmas.Bool.le-leb, proofs.lemmas.List.Sums.list_all-from_AllPass, specs.Prelude.codes, specs.Prelude.nat_le}
use Rattle.std.specs.List.{AllByRecursion, list_all}
use Rattle.kp_base.specs.{Characters.is_word, First.first}
use Rattle.kp_bits.specs.Word.{word, IsWord}
use Rattle.kp_ast.specs.{Name.IsName, declared.tree.Decl.Decl, declared.tree.Job.Job}
use Rattle.kp_ast.specs.declared.tree.Decl.TheVariants as decls
use Rattle.kp_width.specs.{TextOrder.declared_names, Widths.widths_of}
use Rattle.kp_stage.specs.{Start.start_of, Stages.broken_of}
use Rattle.kp_image.specs.Sections.{sections_of}
use Rattle.kp_pipeline.specs.{Machine.Machine, Pipeline.PipelineState, Pipeline.Inputs, Pipeline.cycle, Pipeline.pipeline_start}
use Rattle.kp_pipeline.specs.Rows.{Row, bits, one_if, rows_from}
use Rattle.kp_machine.specs.{Machine.machine_of, Machine.state_of, Machine.start_hints, Machine.inputs_from, Slots.targets_of}
use Rattle.kp_machine.{proofs.Widths.Fine, proofs.Widths.job_fine, specs.Words.no_slot}
use Rattle.kp_design.proofs.Limits.{limits, targets_counted}
use Rattle.kp_run.proofs.Machines.{stages_fit}
use Rattle.kp_vcd.specs.{declared.dump.Signal.Signal, Recording.Values, Forms.is_name, Fitting.IsSignal, Fitting.FitsForm}
use Rattle.kp_vcd.specs.Dumps.{wire, register_signals, signals_of, number, output_values, register_values, values_at, own_run, vcd_dump}
use Rattle.kp_vcd.proofs.{Masks.RollBackBelow, Masks.run_below, Named.RegistersNamed, Named.JobNamed, ReadValues.visible_fits}
use Rattle.kp_vcd.proofs.Rising.{to_all, recorded_rises, FitSignals, recorded_reported}

-- ---- the signals

both : (a b : Bool) → a ≡ true → b ≡ true → (a && b) ≡ true
both true b e f = f
both false b e f = cc

-- a letter and `_` before a name
pub led : (letter : ℕ) (name : List ℕ) → is_word letter ≡ true → IsName name → is_name (letter ∷ 95 ∷ name) ≡ true
led letter name e h =
    both (nat_le 1 (suc (suc (length name))) && nat_le (suc (suc (length name))) 66) (list_all is_word (letter ∷ 95 ∷ name))
    (both (nat_le 1 (suc (suc (length name)))) (nat_le (suc (suc (length name))) 66) (le-leb 1 (suc (suc (length name))) (omega arith)) (le-leb (suc (suc (length name))) 66 (omega (arith, h.within))))
    (both (is_word letter) (list_all is_word (95 ∷ name)) e (list_all-from_AllPass is_word name h.spelled))

registers_signals : (ds : List Decl) → Fine ds → RegistersNamed ds → AllByRecursion IsSignal (register_signals ds)
registers_signals [] fine h = tt
registers_signals (decls.Reg n width start ∷ ds) fine h =
    (record { named = led 114 n.name refl h.0; positive = fine.0; at_most = fine.1 }, registers_signals ds fine.2 h.1)
registers_signals (decls.File n width address ∷ ds) fine h = registers_signals ds fine.3 h.1
registers_signals (_ ∷ ds) fine h = registers_signals ds fine h.1

registers_few : (ds : List Decl) → length (register_signals ds) ≤ length (targets_of ds)
registers_few [] = omega arith
registers_few (decls.Reg n width start ∷ ds) = let h = registers_few ds in omega (arith, h)
registers_few (decls.File n width address ∷ ds) = let h = registers_few ds in omega (arith, h)
registers_few (_ ∷ ds) = registers_few ds

-- ---- their values

one_below : (b : Bool) → one_if b ≤ 1
one_below true = omega arith
one_below false = omega arith

number_below : (bs : List Bool) → number bs < 2 ^ length bs
number_below [] = omega arith
number_below (b ∷ bs) =
    let one = one_below b in
    let more = number_below bs in
    let twice : 2 ^ suc (length bs) ≡ 2 ^ length bs * 2 = pow-suc 2 (length bs) in
    omega (arith, one, more, twice)

bits_many : (f : ℕ → Bool) (n k : ℕ) → length (bits f n k) ≡ n
bits_many f zero k = refl
bits_many f (suc n) k = ap (λ (m : ℕ). suc m) (bits_many f n (suc k))

-- rows of n stages
abbrev AreOf : ℕ → List Row → Type 0
AreOf n rows = AllByRecursion (λ r. (length r.full ≡ n) × (length r.ue ≡ n)) rows

run_of : (m : Machine) (st : PipelineState) (ins : List Inputs) → AreOf m.stages (rows_from m st ins)
run_of m st [] = tt
run_of m st (i ∷ ins) = ((bits_many _ m.stages 0, bits_many _ m.stages 0), run_of m (cycle m st i) ins)

bits_word : (n : ℕ) (bs : List Bool) → 1 ≤ n → n ≤ 12 → length bs ≡ n → IsWord (word n (number bs))
bits_word n bs some few is = record { positive = some; at_most = omega (arith, few); fits = subst (λ (k : ℕ). number bs < 2 ^ k) is (number_below bs) }

back_word : (n b : ℕ) → n ≤ 12 → b ≤ n → IsWord (word 4 b)
back_word n b few h = record { positive = omega arith; at_most = omega arith; fits = omega (arith, few, h) }

outputs_fit : (n : ℕ) (rows : List Row) (T : ℕ) (ss : List Signal) (vs : Values) → 1 ≤ n → n ≤ 12 → AreOf n rows → RollBackBelow n rows → FitSignals ss vs
    → FitSignals (wire (codes "full") n ∷ wire (codes "ue") n ∷ wire (codes "back") 4 ∷ ss) (output_values n rows T ++ vs)
outputs_fit n [] T ss vs some few are below h = (tt, (tt, (tt, h)))
outputs_fit n (r ∷ rows) zero ss vs some few are below h =
    ((refl, bits_word n r.full some few are.0.0), ((refl, bits_word n r.ue some few are.0.1), ((refl, back_word n r.back few below.0), h)))
outputs_fit n (r ∷ rows) (suc T) ss vs some few are below h = outputs_fit n rows T ss vs some few are.1 below.1 h

registers_fit : (f : ℕ → ℕ) (ds : List Decl) (t : ℕ) → Fine ds → ((u : ℕ) → u < length (targets_of ds) → f (t + u) < 2 ^ (get_or (targets_of ds) u no_slot).width)
    → FitSignals (register_signals ds) (register_values f t ds)
registers_fit f [] t fine h = tt
registers_fit f (decls.Reg n width start ∷ ds) t fine h =
    let here : t + 0 ≡ t = omega arith in (
      (refl, record { positive = fine.0; at_most = fine.1; fits = subst (λ (v : ℕ). f v < 2 ^ width.value) here (h 0 (omega arith)) }),
      registers_fit f ds (t + 1) fine.2
          (λ u l. let e : t + suc u ≡ t + 1 + u = omega arith in subst (λ (v : ℕ). f v < 2 ^ (get_or (targets_of ds) u no_slot).width) e (h (suc u) (omega (arith, l)))),
    )
registers_fit f (decls.File n width address ∷ ds) t fine h =
    registers_fit f ds (t + 1) fine.3
    (λ u l. let e : t + suc u ≡ t + 1 + u = omega arith in subst (λ (v : ℕ). f v < 2 ^ (get_or (targets_of ds) u no_slot).width) e (h (suc u) (omega (arith, l))))
registers_fit f (_ ∷ ds) t fine h = registers_fit f ds t fine h

-- ---- the dump

module _ (job : Job) (entries : map (λ e. e.name) (widths_of job).value ≡ declared_names job) (named : JobNamed job) (widths : first (widths_of job).asked ≡ None) (stages : broken_of job ≡ None) (sections : first (sections_of job).asked ≡ None) (n : ℕ) where
  fine : Fine job.decls
  fine = job_fine job widths

  rows_of : AreOf job.stages.value (own_run job n).rows
  unfolding machine_of
  rows_of = run_of (machine_of job) (pipeline_start (state_of job (start_of job)) (start_hints job)) (inputs_from job 0 n)

  rows_below : RollBackBelow job.stages.value (own_run job n).rows
  unfolding machine_of
  rows_below = run_below (machine_of job) (pipeline_start (state_of job (start_of job)) (start_hints job)) (inputs_from job 0 n)

  values_fit : (T : ℕ) → T ≤ n → FitSignals (signals_of job) (values_at job (own_run job n) T)
  values_fit T h =
      let count = stages_fit job stages in
      outputs_fit job.stages.value (own_run job n).rows T (register_signals job.decls) (register_values (λ t. (own_run job n).visible T t 0) 0 job.decls)
      (omega (arith, count.0)) count.1 rows_of rows_below
      (registers_fit (λ t. (own_run job n).visible T t 0) job.decls 0 fine
      (λ u l. let e : u ≡ 0 + u = omega arith in subst (λ (v : ℕ). (own_run job n).visible T v 0 < 2 ^ (get_or (targets_of job.decls) u no_slot).width) e (visible_fits job entries widths stages sections n T u h l)))

  signals_fit : AllByRecursion IsSignal (signals_of job)
  signals_fit =
      let count = stages_fit job stages in
      let some : 1 ≤ job.stages.value = omega (arith, count.0) in
      let few : job.stages.value ≤ 64 = omega (arith, count.1) in (
        record { named = refl; positive = some; at_most = few },
        (
          record { named = refl; positive = some; at_most = few },
          (record { named = refl; positive = omega arith; at_most = omega arith }, registers_signals job.decls fine named.registers),
        ),
      )

  signals_few : length (signals_of job) < 2 ^ 64
  signals_few =
      let of_job = limits job stages in
      omega (arith, registers_few job.decls, targets_counted job.decls, of_job.regs, of_job.files)

  pub dump_fits : n < 2 ^ 64 → FitsForm (vcd_dump n job)
  unfolding vcd_dump
  dump_fits small = record {
    named = led 109 job.name.name refl named.name;
    signals = to_all IsSignal (signals_of job) signals_fit;
    few = signals_few;
    rises = recorded_rises (values_at job (own_run job n)) n small;
    changes = recorded_reported (signals_of job) (values_at job (own_run job n)) n signals_few values_fit;
  }
