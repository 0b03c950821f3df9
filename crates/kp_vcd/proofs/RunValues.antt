-- The values of a run of a netlist that implements the machine of a job.
use Rattle.std.proofs.Common.{◌≡◌, ◌∙◌, ℕ, zero, suc, ◌+◌, ◌<◌, ◌≤◌, ◌^◌, List, [], ◌∷◌, ◌++◌, length, length-append, Bool, true, false, None, Some, refl, ap, ap₂, sym, subst, arith}
use Rattle.std.proofs.lemmas.{Bool.ltb-true, Bool.ltb-false, List.map-append, List.length-map, Nat.pow_pos}
use Rattle.std.specs.Prelude.{nat_lt}
use Rattle.kp_base.specs.declared.row.Row as masks
use Rattle.kp_ast.specs.declared.tree.Job.{Job}
use Rattle.kp_pipeline.specs.{Pipeline.Inputs, Pipeline.pipeline_start, Rows.Row}
use Rattle.kp_stage.specs.{Start.start_of as job_start, Stages.broken_of}
use Rattle.kp_machine.specs.{Machine.machine_of, Machine.state_of, Machine.start_hints, Machine.pipe_of, Machine.inputs_from, Slots.targets_of, Words.target}
use Rattle.kp_vcd.proofs.{FewDecls.decls_few, Masks.RollBackBelow, Masks.masks_are, Masks.run_below, Masks.output_first, Masks.output_last, Masks.output_none}
use Rattle.kp_vcd.proofs.Placing.{registers_alike}
use Rattle.kp_cycle.specs.Steps.{Running, reg_shown}
use Rattle.kp_net.specs.Netlist.{Net, State, start_of, row_of, last_of, run}
use Rattle.kp_net.proofs.Runs.{rows_more}
use Rattle.kp_sched.specs.{Rows.row_seen, Rows.rows_seen, Runs.ShowsAlike}
use Rattle.kp_sched.proofs.Counting.{seen_length}
use Rattle.kp_implements.specs.{Naming.value_shown, Shows.Shows, Traces.trace_of, Traces.inputs_seen, Traces.AreQuiet}
use Rattle.kp_run.{specs.Cycles.input_at, specs.Cycles.inputs_to, proofs.Prefixes.state_is, proofs.Prefixes.rows_many}
use Rattle.kp_vcd.specs.{Recording.Values, Dumps.row_values, Dumps.no_row, Dumps.output_values, Dumps.register_values, Dumps.values_at, Dumps.own_run}
use Rattle.kp_vcd.specs.inner.Shown.{shown_at, ArePlaces, mask_values}

-- ---- one row of a netlist

module _ (job : Job) (net : Net) where
  abbrev k : ℕ
  k = job.stages.value

  abbrev rows : ℕ → List masks.Row
  rows n = (run net (inputs_to job n)).rows

  abbrev row_at : ℕ → masks.Row
  row_at T = row_of net (input_at job T) (last_of net (inputs_to job T))

  many : (n : ℕ) → length (rows_seen k (rows n)) ≡ n
  many n = seen_length k (rows n) ∙ rows_many job net n

  longer : (n : ℕ) → rows_seen k (rows (suc n)) ≡ rows_seen k (rows n) ++ row_seen k (row_at n) ∷ []
  longer n =
      ap (rows_seen k) (rows_more net (start_of net) (inputs_to job n) (input_at job n))
      ∙ map-append (row_seen k) (rows n) (row_at n ∷ [])

  output_is : (n T : ℕ) → T < n → output_values k (rows_seen k (rows n)) T ≡ row_values k (row_seen k (row_at T))
  output_is zero T h = absurd (omega (arith, h))
  output_is (suc n) T h = go (output_is n T) (nat_lt T n) refl
    where
      go : (T < n → output_values k (rows_seen k (rows n)) T ≡ row_values k (row_seen k (row_at T))) → (b : Bool) → nat_lt T n ≡ b
          → output_values k (rows_seen k (rows (suc n))) T ≡ row_values k (row_seen k (row_at T))
      go earlier true e =
          let below : T < n = ltb-true T n e in
          ap (λ (l : List Row). output_values k l T) (longer n)
          ∙ output_first k (rows_seen k (rows n)) (row_seen k (row_at n) ∷ []) T (omega (arith, below, many n))
          ∙ earlier below
      go earlier false e =
          let above : n ≤ T = ltb-false T n e in
          let same : n ≡ T = omega (arith, above, h) in
          ap (λ (l : List Row). output_values k l T) (longer n)
          ∙ output_last k (rows_seen k (rows n)) (row_seen k (row_at n)) T (many n ∙ same)
          ∙ ap (λ (m : ℕ). row_values k (row_seen k (row_at m))) same

-- the number at index 2
abbrev third : Values → ℕ
third (a ∷ b ∷ Some w ∷ more) = w.value
third _ = 0

back_at : (n : ℕ) (rs : List Row) (T : ℕ) (r : Row) → RollBackBelow n rs → T < length rs → output_values n rs T ≡ row_values n r → r.back ≤ n
back_at n [] T r below h e = absurd (omega (arith, h))
back_at n (x ∷ rs) zero r below h e = let same : x.back ≡ r.back = ap third e in omega (arith, below.0, same)
back_at n (x ∷ rs) (suc T) r below h e = back_at n rs T r below.1 (omega (arith, h)) e

-- ---- a run

module _ (job : Job) (net : Net) (n : ℕ) (shows : Shows net job) (seen : inputs_seen job (inputs_to job n) ≡ inputs_from job 0 n) (quiet : AreQuiet (inputs_to job n)) where
  alike : ShowsAlike job (trace_of job net (inputs_to job n)) (own_run job n)
  alike =
      subst (λ (ins : List Inputs). ShowsAlike job (trace_of job net (inputs_to job n)) (pipe_of job ins)) seen (shows.runs (inputs_to job n) quiet)

  rows_are : rows_seen job.stages.value (run net (inputs_to job n)).rows ≡ (own_run job n).rows
  unfolding trace_of
  rows_are = alike.rows

  count_is : length (own_run job n).rows ≡ n
  count_is = ap (λ (l : List Row). length l) (sym rows_are) ∙ many job net n

  visible_is : (T : ℕ) → T ≤ n → (t : ℕ) → t < length (targets_of job.decls) → value_shown job net (last_of net (inputs_to job T)) t 0 ≡ (own_run job n).visible T t 0
  unfolding trace_of
  visible_is T h t there =
      ap (λ (st : State). value_shown job net st t 0) (sym (state_is job net n T h))
      ∙ alike.values T t 0 (omega (arith, h, many job net n)) (record { target = there; address = pow_pos (target job t).address })

  registers_are : (T : ℕ) (places : List ℕ) → T ≤ n → ArePlaces job net places
      → shown_at (record { net = net; state = last_of net (inputs_to job T); slots = [] }) places ≡ register_values (λ t. (own_run job n).visible T t 0) 0 job.decls
  registers_are T places h are =
      are.shown (last_of net (inputs_to job T))
      ∙ registers_alike job (λ t. value_shown job net (last_of net (inputs_to job T)) t 0) (λ t. (own_run job n).visible T t 0) (visible_is T h)

  outputs_are : (T : ℕ) → T < n → output_values job.stages.value (own_run job n).rows T ≡ row_values job.stages.value (row_seen job.stages.value (row_at job net T))
  outputs_are T h = ap (λ (l : List Row). output_values job.stages.value l T) (sym rows_are) ∙ output_is job net n T h

  below : RollBackBelow job.stages.value (own_run job n).rows
  unfolding machine_of
  below = run_below (machine_of job) (pipeline_start (state_of job (job_start job)) (start_hints job)) (inputs_from job 0 n)

  -- the values in a cycle
  pub values_in_cycle : (T : ℕ) (places : List ℕ) → T < n → job.stages.value ≤ 12 → ArePlaces job net places
      → mask_values job.stages.value (row_at job net T) ++ shown_at (record { net = net; state = last_of net (inputs_to job T); slots = [] }) places ≡ values_at job (own_run job n) T
  values_in_cycle T places h few are =
      let low = back_at job.stages.value (own_run job n).rows T (row_seen job.stages.value (row_at job net T)) below (omega (arith, h, count_is)) (outputs_are T h) in
      ap₂ (λ (xs ys : Values). xs ++ ys)
      (masks_are job.stages.value (row_at job net T) (omega (arith, low, few)) ∙ sym (outputs_are T h))
      (registers_are T places (omega (arith, h)) are)

  -- and after the last one
  pub values_behind_all : (places : List ℕ) → ArePlaces job net places
      → no_row ++ shown_at (record { net = net; state = last_of net (inputs_to job n); slots = [] }) places ≡ values_at job (own_run job n) n
  values_behind_all places are =
      ap₂ (λ (xs ys : Values). xs ++ ys)
      (sym (output_none job.stages.value (own_run job n).rows n (omega (arith, count_is))))
      (registers_are n places (omega arith) are)

-- ---- how many values there are

-- the outputs and the registers
pub values_few : (job : Job) (net : Net) (places : List ℕ) (sim : Running) (outputs now registers : Values) → broken_of job ≡ None → ArePlaces job net places → length outputs ≡ 3
    → registers ≡ shown_at sim places → now ≡ outputs ++ registers → length now < 2 ^ 32
values_few job net places sim outputs now registers right are three shown is =
    let decls = decls_few job right in
    let many : length registers ≡ length places = ap (λ (l : Values). length l) shown ∙ length-map places (λ (p : ℕ). Some (reg_shown sim p)) in
    let all : length now ≡ length outputs + length registers = ap (λ (l : Values). length l) is ∙ length-append outputs registers in
    omega (arith, decls, many, all, three, are.few)
