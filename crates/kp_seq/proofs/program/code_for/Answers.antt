use Rattle.std.proofs.Common.{refl, subst}
use Rattle.kp_seq_plan.specs.declared.code.Code.TheVariants as leaf
use Rattle.kp_seq.{specs.inner.Resolved.IsCode, proofs.Resolved.code_is, proofs.Resolved.code_none}
use Rattle.kp_seq.proofs.program.code_for.Goals as goal

pub returns-in-Some : goal.returns-in-Some
returns-in-Some c =
    subst (λ t. IsCode t c.args.widths.now c.args.e.now c.in-Some.value) (λ i. record (c.tables.view_is i) { names = c.requires i })
    (code_is _ c.args.widths.now _ c.args.e.now c.in_ok-plan.plan (λ q. refl) c.in_ok-plan.ensures c.in_ok-value.value c.in-Some.value c.in-Some.is c.in_ok-value.ensures)

pub returns-in-None : goal.returns-in-None
returns-in-None c =
    subst (λ t. IsCode t c.args.widths.now c.args.e.now (record { code = leaf.Word 0; width = 1 })) (λ i. record (c.tables.view_is i) { names = c.requires i })
    (code_none _ c.args.widths.now _ c.args.e.now c.in_ok-plan.plan (λ q. refl) c.in_ok-plan.ensures c.in_ok-value.value (record { code = leaf.Word 0; width = 1 }) c.in-None.is c.in_ok-value.ensures refl)
