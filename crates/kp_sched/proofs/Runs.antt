-- Runs with the rows of a job's pipeline.
use Rattle.std.proofs.Common.{◌≡◌, ◌∙◌, ℕ, ◌+◌, ◌<◌, ◌≤◌, Bool, true, false, List, length, get_or, refl, ap, sym, subst, arith}
use Rattle.std.specs.Prelude.{cond}
use Rattle.kp_base.specs.declared.row.Row as masks
use Rattle.kp_ast.specs.declared.tree.Job.{Job}
use Rattle.kp_stage.specs.Start.{start_of}
use Rattle.kp_pipeline.specs.{Accepted.Accepted, Claims.Legal, Claims.Moves, Claims.HighestStays, Machine.Machine, Pipeline.Inputs, Pipeline.pipeline_start}
use Rattle.kp_pipeline.specs.{Rows.Row, Rows.Trace, Rows.counts, Rows.passed, Rows.taken, Sequential.seq}
use Rattle.kp_pipeline.proofs.{Counts.counts-passed, SameTrace.same-moves, Taken.rows-length}
use Rattle.kp_machine.specs.Machine.{machine_of, state_of, start_hints, pipe_of}
use Rattle.kp_sched.specs.{Monitors.Kept, Runs.passes, Runs.due_value, Runs.IsLegal, Runs.ShowsAlike, Runs.HasWatched}
use Rattle.kp_sched.proofs.Counting.{seen_length}

module _ (job : Job) where
  abbrev m : Machine
  m = machine_of job

  abbrev begin : ℕ → ℕ → ℕ
  begin = state_of job (start_of job)

  -- both cases of a target, in one value
  either_way : (ins : List Inputs) (trace : Trace) (T t a : ℕ) (has : Bool)
      → (has ≡ true → trace.visible T t a ≡ seq m begin (taken m ins trace.rows) (passed trace.rows (m.write_stage t) T) t a)
      → (has ≡ false → trace.visible T t a ≡ begin t a)
      → trace.visible T t a ≡ seq m begin (taken m ins trace.rows) (cond has (passed trace.rows (m.write_stage t) T) 0) t a
  unfolding seq
  either_way ins trace T t a true when_so when_not = when_so refl
  either_way ins trace T t a false when_so when_not = when_not refl

  legal_is : (ins : List Inputs) (trace : Trace) → Legal m begin ins trace → IsLegal job ins trace
  unfolding due_value passes
  legal_is ins trace shows T t a within there = let h = shows T within t a in either_way ins trace T t a (m.has_result t) h.0 h.1

  pub alike_is_legal : (ins : List Inputs) (a b : Trace) → ShowsAlike job a b → Legal m begin ins b → IsLegal job ins a
  alike_is_legal ins a b alike legal T t x within there =
      alike.values T t x within there
      ∙ legal_is ins b legal T t x (subst (λ (rows : List Row). T ≤ length rows) alike.rows within) there
      ∙ ap (λ (rows : List Row). due_value job ins rows T t x) (sym alike.rows)

  pub alike_moves : (ins : List Inputs) (a b : Trace) → ShowsAlike job a b → Moves m ins b → Moves m ins a
  alike_moves ins a b alike = same-moves m ins b a alike.rows

  pub alike_stays : (a b : Trace) → ShowsAlike job a b → HighestStays m.stages b.rows → HighestStays m.stages a.rows
  alike_stays a b alike = subst (HighestStays m.stages) (sym alike.rows)

  -- a monitor that was given the rows of a run
  module _ (kept : Kept) (ins : List Inputs) (rows : List masks.Row) (watched : HasWatched job kept ins rows) where
    many : length rows ≡ length ins
    many =
        sym (seen_length kept.stages rows)
        ∙ ap length watched.rows
        ∙ rows-length m (pipeline_start begin (start_hints job)) ins

    pub within : length ins ≤ length (pipe_of job ins).rows
    within = omega (arith, rows-length m (pipeline_start begin (start_hints job)) ins)

    pub passed_is : (k : ℕ) → k < kept.stages → get_or kept.passed k 0 ≡ passed (pipe_of job ins).rows k (length ins)
    passed_is k there =
        watched.seen.passed k there
        ∙ ap (λ (all : List Row). passed all k (length rows)) watched.rows
        ∙ ap (λ (T : ℕ). passed (pipe_of job ins).rows k T) many

    counts_is : (k : ℕ) → k < kept.stages → get_or kept.counts k 0 ≡ counts m.stages (pipe_of job ins).rows (length ins) k
    counts_is k there =
        watched.seen.counts k there
        ∙ ap (λ (all : List Row). counts kept.stages all (length rows) k) watched.rows
        ∙ ap (λ (T : ℕ). counts kept.stages (pipe_of job ins).rows T k) many
        ∙ ap (λ (n : ℕ). counts n (pipe_of job ins).rows (length ins) k) watched.stages

    pub agree : Accepted m → (k : ℕ) → k < kept.stages → m.last_guessed ≤ k + 1 → get_or kept.counts k 0 ≡ get_or kept.passed k 0
    agree acc k there late =
        counts_is k there
        ∙ counts-passed m begin (start_hints job) ins acc k (length ins) (subst (λ n. k < n) watched.stages there) late
        ∙ sym (passed_is k there)
