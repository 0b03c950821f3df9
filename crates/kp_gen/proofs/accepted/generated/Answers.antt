use Rattle.std.proofs.Common.{◌≡◌, ◌∙◌, ◌<◌, ◌^◌, None, length, ap, arith, subst, sym}
use Rattle.std.specs.Prelude.{sum_by}
use Rattle.kp_base.specs.First.{first}
use Rattle.kp_ast.specs.declared.tree.Job.{Job}
use Rattle.kp_width.specs.{Declarations.functions_in, Widths.widths_of}
use Rattle.kp_stage.specs.{Design.Plan, Stages.broken_of}
use Rattle.kp_image.specs.Sections.{sections_of}
use Rattle.kp_gen.proofs.accepted.generated.Goals as goal

pub widths_of-requires-clause-few_functions : goal.widths_of-requires-clause-few_functions
widths_of-requires-clause-few_functions c =
    subst (λ (j : Job). sum_by functions_in j.decls < 2 ^ 32) (sym c.in_ok-job.ensures)
    (let none = c.a_generated_job_is_small.ensures.functions c.args.number in omega (arith, none))

pub design_of-requires-clause-names : goal.design_of-requires-clause-names
design_of-requires-clause-names c =
    subst (λ (j : Job). first (widths_of j).asked ≡ None) (sym c.in_ok-job.ensures) (c.generated_names_are_right.ensures c.args.number)

pub design_of-requires-clause-stages : goal.design_of-requires-clause-stages
design_of-requires-clause-stages c = subst (λ (j : Job). broken_of j ≡ None) (sym c.in_ok-job.ensures) (c.generated_stages_are_right.ensures c.args.number)

pub sections_of-requires : goal.sections_of-requires
sections_of-requires c =
    subst (λ (j : Job). first (sections_of j).asked ≡ None) (sym (ap (λ (p : Plan). p.job) c.in_ok-design.ensures ∙ c.in_ok-job.ensures))
    (c.generated_sections_are_right.ensures c.args.number)

pub invariant_of-result : goal.invariant_of-result
invariant_of-result c =
    let same = ap (λ (p : Plan). p.job) c.in_ok-design.ensures ∙ c.in_ok-job.ensures in
    record {
      few = subst (λ (j : Job). length j.decls < 2 ^ 32) (sym same) (let few = c.a_generated_job_is_small.ensures.decls c.args.number in omega (arith, few));
      start = c.in_ok-sections.ensures.start;
      stalls = c.in_ok-sections.ensures.stalls;
      inputs = c.in_ok-sections.ensures.inputs;
      unbroken = subst (λ (j : Job). first (sections_of j).asked ≡ None) (sym same) (c.generated_sections_are_right.ensures c.args.number);
    }
