-- The rows so far of a run are the first rows of all longer ones.
use Rattle.std.proofs.Common.{◌≡◌, ◌∙◌, ℕ, zero, suc, ◌+◌, ◌<◌, ◌≤◌, List, [], ◌∷◌, ◌++◌, length, take, drop, get_or, Bool, true, false, refl, ap, sym, subst, arith}
use Rattle.std.proofs.{Math.Seq.take-append_seam, lemmas.Bool.ltb-true, lemmas.Bool.ltb-false, lemmas.List.take_all, lemmas.List.take-append-le}
use Rattle.std.specs.Prelude.{nat_lt, if◌then◌else◌}
use Rattle.kp_base.specs.declared.row.Row as masks
use Rattle.kp_ast.specs.declared.tree.Job.{Job}
use Rattle.kp_net.{specs.Netlist.Net, specs.Netlist.start_of, specs.Netlist.row_of, specs.Netlist.last_of, specs.Netlist.run, proofs.Runs.rows_more}
use Rattle.kp_sched.specs.{Monitors.Kept, Monitors.HasSeen, Rows.rows_seen}
use Rattle.kp_seq.specs.Running.{Running}
use Rattle.kp_run.{specs.Cycles.input_at, specs.Cycles.inputs_to, proofs.Prefixes.rows_many, proofs.Prefixes.passed_first}
use Rattle.kp_watch.specs.{declared.lockstep.Beside.Beside, declared.compare.Tables.Tables, inner.Beside.HaveCome}
use Rattle.kp_watch.specs.inner.Machines.{given, ran, HasRun, HaveRun}

pub first_rows : (job : Job) (net : Net) (n T : ℕ) → T ≤ n → take T (run net (inputs_to job n)).rows ≡ (run net (inputs_to job T)).rows
first_rows job net zero zero h = refl
first_rows job net zero (suc T) h = absurd (omega (arith, h))
first_rows job net (suc n) T h = go (first_rows job net n T) (nat_lt n T) refl
  where
    go : (T ≤ n → take T (run net (inputs_to job n)).rows ≡ (run net (inputs_to job T)).rows) → (c : Bool) → nat_lt n T ≡ c
        → take T (run net (inputs_to job (suc n))).rows ≡ (run net (inputs_to job T)).rows
    go shorter true e =
        let above : n < T = ltb-true n T e in
        let same : T ≡ suc n = omega (arith, h, above) in
        let many = rows_many job net (suc n) in
        take_all T (run net (inputs_to job (suc n))).rows (omega (arith, many, same)) ∙ ap (λ (m : ℕ). (run net (inputs_to job m)).rows) (sym same)
    go shorter false e =
        let below : T ≤ n = ltb-false n T e in
        let rows = (run net (inputs_to job n)).rows in
        let last = row_of net (input_at job n) (last_of net (inputs_to job n)) in
        let many = rows_many job net n in
        ap (take T) (rows_more net (start_of net) (inputs_to job n) (input_at job n))
        ∙ take-append-le T rows (last ∷ []) (omega (arith, many, below))
        ∙ shorter below

-- machines that have executed some rows, as the first of others
pub run_within : (job : Job) (values : ℕ → ℕ → ℕ) (xs ys : List masks.Row) (T : ℕ) (machines : List Running) → take T ys ≡ xs
    → HaveRun job values (rows_seen job.stages.value xs) T machines → HaveRun job values (rows_seen job.stages.value ys) T machines
run_within job values xs ys T machines first have = record {
  count = have.count;
  jobs = have.jobs;
  each = λ k d h home. subst (λ (i : ℕ). HasRun job values i (get_or machines k d)) (as_many k) (have.each k d h home);
}
  where
    as_many : (k : ℕ) → ran job.stages.value (rows_seen job.stages.value xs) T k ≡ ran job.stages.value (rows_seen job.stages.value ys) T k
    as_many k =
        ap (λ (zs : List masks.Row). ran job.stages.value (rows_seen job.stages.value zs) T k) (sym first)
        ∙ ap (λ (m : ℕ). if nat_lt k job.stages.value then m else 0) (passed_first job.stages.value ys k T)

-- one row more
pub first_of : (xs : List masks.Row) (r : masks.Row) (T : ℕ) → length xs ≡ T → take T (xs ++ r ∷ []) ≡ xs
first_of xs r T many = ap (λ (m : ℕ). take m (xs ++ r ∷ [])) (sym many) ∙ take-append_seam xs (r ∷ [])

-- a list that is written back to a vector of its length
pub written_back : {X : Type 0} (old new : List X) (len : ℕ) → len ≡ length new → take len (new ++ drop (length new) old) ≡ new
written_back old new len many = ap (λ (m : ℕ). take m (new ++ drop (length new) old)) many ∙ take-append_seam new (drop (length new) old)

-- a netlist and the machines, where these are all rows of the run
pub record HaveComeIn (job : Job) (net : Net) (rows : List masks.Row) (tables : Tables) (T : ℕ) (both : Beside) : Type 0 where
  pub sim : both.sim ≡ record { net = net; state = last_of net (inputs_to job T); slots = [] }
  pub machines : HaveRun job (given tables.columns.items) (rows_seen job.stages.value rows) T both.machines.items
  pub stages : both.monitor.stages ≡ job.stages.value
  pub seen : HasSeen both.monitor (take T rows)
  pub noted : length both.written.items ≡ length net.parts.files

pub come_in : (job : Job) (net : Net) (n : ℕ) (tables : Tables) (T : ℕ) (both : Beside) → T ≤ n → HaveCome job net tables T both
    → HaveComeIn job net (run net (inputs_to job n)).rows tables T both
come_in job net n tables T both h come =
    let first = first_rows job net n T h ∙ sym come.rows.rows in
    record {
      sim = come.sim;
      machines = run_within job (given tables.columns.items) both.rows.items (run net (inputs_to job n)).rows T both.machines.items first come.machines;
      stages = come.rows.stages;
      seen = subst (HasSeen both.monitor) (sym first) come.rows.seen;
      noted = come.noted;
    }
