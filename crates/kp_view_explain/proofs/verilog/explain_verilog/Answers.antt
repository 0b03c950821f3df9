use Rattle.std.proofs.Common.{Err, subst}
use Rattle.kp_base.specs.declared.refusal.Refused.{Refused}
use Rattle.kp_vlog.specs.Verdict.{AnswersNet}
use Rattle.kp_view_explain.specs.declared.words.Subject.TheVariants as subjects
use Rattle.kp_view_explain.proofs.Inputs.{refused}
use Rattle.kp_view_explain.proofs.verilog.explain_verilog.Goals as goal

pub returns-in_ok-misread-in-Err-Rule-clause-said : goal.returns-in_ok-misread-in-Err-Rule-clause-said
returns-in_ok-misread-in-Err-Rule-clause-said c strict =
    let text = c.args.text.now in
    let broken = subst (λ (r : Refused). AnswersNet text 0 (Err r)) c.in-Err-Rule.field-0-is c.in-Err-Rule.ensures in
    let said = c.in_ok-misread-in-Err-Rule.ensures in
    let (count, marks, shown) = said.shown in
    refused subjects.Verilog strict c.args.file.now text _ _ _ count broken said.status marks shown
