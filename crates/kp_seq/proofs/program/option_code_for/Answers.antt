use Rattle.std.proofs.Common.{subst, sym}
use Rattle.kp_seq_plan.specs.declared.code.Code.TheVariants as leaf
use Rattle.kp_seq.{specs.inner.Resolved.IsOptionCode, proofs.Resolved.some_is, proofs.Resolved.none_is}
use Rattle.kp_seq.proofs.program.option_code_for.Goals as goal

pub returns-in_ok-value-in-Some : goal.returns-in_ok-value-in-Some
returns-in_ok-value-in-Some c =
    let v = c.in_ok-value-in-Some.value in
    subst (λ o. IsOptionCode c.args.tables.now c.args.widths.now c.args.omitted o v.code) (sym c.in-Some.is)
    (some_is c.args.tables.now c.args.widths.now c.args.omitted c.in-Some.e v c.in_ok-value-in-Some.ensures)

pub returns-in-None : goal.returns-in-None
returns-in-None c = subst (λ o. IsOptionCode c.args.tables.now c.args.widths.now c.args.omitted o (leaf.Word c.args.omitted)) (sym c.in-None.is) (none_is c.args.tables.now c.args.widths.now c.args.omitted)
