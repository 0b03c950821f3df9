-- A trace with the rows and values of a legal pipeline is legal, whichever values it starts with.
use Rattle.std.proofs.Common.{◌≡◌, ◌∙◌, ℕ, ◌≤◌, Bool, true, false, cond, List, length, refl, ap, sym, subst}
use Rattle.kp_ast.specs.declared.tree.Job.{Job}
use Rattle.kp_pipeline.specs.{Claims.Legal, Machine.Machine, Pipeline.Inputs, Rows.Row, Rows.Trace, Rows.passed, Rows.taken, Sequential.seq}
use Rattle.kp_machine.specs.Machine.{machine_of}
use Rattle.kp_sched.specs.Runs.{passes, ShowsAlike}
use Rattle.kp_implements.specs.Legal.{value_from, IsLegalFrom}

module _ (job : Job) (s : ℕ → ℕ → ℕ) where
  abbrev m : Machine
  m = machine_of job

  -- both cases of a target, in one value
  either_way : (ins : List Inputs) (trace : Trace) (T t a : ℕ) (has : Bool)
      → (has ≡ true → trace.visible T t a ≡ seq m s (taken m ins trace.rows) (passed trace.rows (m.write_stage t) T) t a)
      → (has ≡ false → trace.visible T t a ≡ s t a)
      → trace.visible T t a ≡ seq m s (taken m ins trace.rows) (cond has (passed trace.rows (m.write_stage t) T) 0) t a
  unfolding seq
  either_way ins trace T t a true when_so when_not = when_so refl
  either_way ins trace T t a false when_so when_not = when_not refl

  legal_from : (ins : List Inputs) (trace : Trace) → Legal m s ins trace → IsLegalFrom job s ins trace
  unfolding value_from passes
  legal_from ins trace shows T t a within there = let h = shows T within t a in either_way ins trace T t a (m.has_result t) h.0 h.1

  pub alike_is_legal_from : (ins : List Inputs) (a b : Trace) → ShowsAlike job a b → Legal m s ins b → IsLegalFrom job s ins a
  alike_is_legal_from ins a b alike legal T t x within there =
      alike.values T t x within there
      ∙ legal_from ins b legal T t x (subst (λ (rows : List Row). T ≤ length rows) alike.rows within) there
      ∙ ap (λ (rows : List Row). value_from job s ins rows T t x) (sym alike.rows)
