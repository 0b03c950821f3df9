-- A RESULT THAT ISN'T SET is 0.
use Rattle.std.proofs.Common.{◌≡◌, ◌∙◌, ℕ, zero, suc, ◌+◌, true, ◌&&◌, eqb, length, Option, Some, None, unwrap_or, is_some, refl, ap, sym, arith, eq-eqb}
use Rattle.std.{proofs.lemmas.Bool.cond-true, specs.Prelude.slice_get}
use Rattle.kp_ast.specs.declared.tree.{Named.Named, ResultDecl.ResultDecl, Job.Job}
use Rattle.kp_stage.specs.Facts.{stmts_in}
use Rattle.kp_pipeline.specs.Sequential.{before_stage, is_written}
use Rattle.kp_machine.specs.{Machine.address_in, Machine.enabled_of, Machine.is_enabled_by, Machine.machine_of, Machine.result_for, Slots.pipes_of}
use Rattle.kp_machine.proofs.Cases.{by_option}
use Rattle.kp_lint.{specs.Claims.Sets, specs.Claims.UnsetIsZero, specs.Claims.instruction_at, proofs.Steps.begins, proofs.Steps.ends}

module _ (job : Job) (s : ℕ → ℕ → ℕ) (q : ℕ → ℕ) (t : ℕ) (none : (k j : ℕ) → Sets job s q k j t → ⊥) where
  unset_at : (k j : ℕ) → (before_stage (machine_of job) s q k).results t ≡ None → (instruction_at job s q k j).results t ≡ None
  unset_at k zero h = begins job s q k t ∙ h
  unset_at k (suc j) h =
      let z : suc j ≡ j + 1 = omega arith in
      rw z (by_option ((instruction_at job s q k (j + 1)).results t) (λ n. n) (λ v e. absurd (none k j (unset_at k j h, (v, e)))))

  unset : (k : ℕ) → (before_stage (machine_of job) s q k).results t ≡ None
  unfolding before_stage
  unset zero = refl
  unset (suc k) =
      let n = length (stmts_in (slice_get job.blocks k)) in
      sym (ends job s q k t n (omega arith)) ∙ unset_at k n (unset k)

  writes : (r : ResultDecl) (pipes : ℕ → ℕ) → result_for job t ≡ Some r → r.enable ≡ None
      → ((machine_of job).has_result t && ((machine_of job).enabled t pipes && eqb ((machine_of job).address t pipes) (address_in (pipes_of job.decls) pipes (Some r)))) ≡ true
  unfolding machine_of
  writes r pipes e free =
      let a = address_in (pipes_of job.decls) pipes (Some r) in
      ap (λ (o : Option ResultDecl). is_some o && (enabled_of (pipes_of job.decls) pipes o && eqb (address_in (pipes_of job.decls) pipes o) a)) e
      ∙ ap (λ (o : Option Named). is_enabled_by (pipes_of job.decls) pipes o && eqb a a) free
      ∙ eq-eqb a a refl

pub unset_is_zero : (job : Job) → UnsetIsZero job
unset_is_zero job s q t r e free none =
    let m = machine_of job in
    let c = before_stage m s q m.stages in
    let a = address_in (pipes_of job.decls) c.pipes (Some r) in
    let w = writes job s q t none r c.pipes e free in
    (w, cond-true (is_written m c t a) (unwrap_or (c.results t) 0) (s t a) w ∙ ap (λ (o : Option ℕ). unwrap_or o 0) (unset job s q t none m.stages))
