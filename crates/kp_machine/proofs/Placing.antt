-- The results of a job that violates no rule: the names of each are declared, and each is the only result of its target.
use Rattle.std.proofs.Common.{◌≡◌, ℕ, ◌+◌, List, Option, Some, None, true, eqb, refl, subst, arith}
use Rattle.kp_ast.specs.declared.tree.{Named.Named, ResultDecl.ResultDecl, Job.Job}
use Rattle.kp_ast.specs.declared.tree.Decl.TheVariants as decls
use Rattle.kp_width.{specs.Declarations.address_width, specs.Names.nothing, specs.Widths.widths_of, proofs.Unbroken.Unbroken}
use Rattle.kp_stage.{specs.Facts.Facts, specs.Facts.facts_of, specs.Rules.holds_of, specs.declared.rules.Rule.Rule, specs.Stages.broken_of}
use Rattle.kp_stage.proofs.{Unbroken.answer_none, Kept.rules_kept, Kept.decl_kept}
use Rattle.kp_machine.{specs.Slots.Slot, specs.Slots.targets_of, specs.Slots.pipes_of, specs.Slots.number_of, specs.Machine.result_for, proofs.Names.IsIn}
use Rattle.kp_machine.proofs.{Results.Stands, Results.to_stands, Results.first_result, Scopes.PipeFits, Scopes.results_fit}
use Rattle.kp_machine.proofs.Text.{text, declared_right, placed, target_slot}

-- a pipe that is named is declared
abbrev pub IsPipeIn : List Slot → Option Named → Type 0
IsPipeIn pipes None = Unit {0}
IsPipeIn pipes (Some n) = IsIn pipes n.name

-- the names of a result are declared
pub record IsPlaced (targets pipes : List Slot) (r : ResultDecl) : Type 0 where
  pub target : IsIn targets r.target.name
  pub address : IsPipeIn pipes r.address
  pub enable : IsPipeIn pipes r.enable

module _ (job : Job) (names : Unbroken (widths_of job)) where
  abbrev targets : List Slot
  targets = targets_of job.decls

  abbrev pipes : List Slot
  pipes = pipes_of job.decls

  pipe_placed : (w : ℕ) (o : Option Named) → PipeFits (text job names) w o → IsPipeIn pipes o
  pipe_placed w None f = tt
  pipe_placed w (Some n) f = ((placed job names n.name f.0 f.1).pipe f.2).inside

  pub result_placed : (r : ResultDecl) → Stands job.decls r → IsPlaced targets pipes r
  result_placed r s =
      let f = results_fit job.decls 0 0 nothing job.decls refl (declared_right job names) s.index r s.there in
      record {
        target = (target_slot job names r f).inside;
        address = pipe_placed (address_width f.sense.kind) r.address f.address;
        enable = pipe_placed 1 r.enable f.enable;
      }

  pub stands : (t : ℕ) (r : ResultDecl) → result_for job t ≡ Some r → Stands job.decls r × (number_of targets r.target.name ≡ t)
  unfolding result_for
  stands t r e = to_stands targets job.decls t r e

  -- a result of a target among the declarations is the one that is found
  pub own : broken_of job ≡ None → (r : ResultDecl) → Stands job.decls r → result_for job (number_of targets r.target.name) ≡ Some r
  unfolding result_for
  own kept r s =
      let facts : Facts = facts_of job in
      let e : holds_of (λ j. eqb j s.index) (facts.result r.target.name) ≡ true =
      answer_none _ _ (decl_kept facts job (rules_kept job kept) Rule.E22 s.index (decls.Target r) s.there) in
      let z : s.index ≡ 0 + s.index = omega arith in
      first_result targets job.decls 0 s.index r (result_placed r s).target s.there
      (subst (λ n. holds_of (λ j. eqb j n) (facts.result r.target.name) ≡ true) z e)
