use Rattle.std.proofs.Common.{Err, subst}
use Rattle.kp_base.specs.declared.refusal.Refused.{Refused}
use Rattle.kp_vlog.specs.Verdict.{AnswersNet}
use Rattle.kp_view_explain.proofs.Inputs.{misread_module}
use Rattle.kp_view_explain.proofs.verilog.explain_module.Goals as goal

pub returns-in_ok-misread-in-Err-Rule-clause-said : goal.returns-in_ok-misread-in-Err-Rule-clause-said
returns-in_ok-misread-in-Err-Rule-clause-said c =
    let text = c.args.text.now in
    let head = c.args.head.now in
    let broken = subst (λ (r : Refused). AnswersNet text head.rest (Err r)) c.in-Err-Rule.field-0-is c.in-Err-Rule.ensures in
    let refused = c.in_ok-misread-in-Err-Rule.ensures in
    misread_module c.args.file.now text head.job.design.job head.rest _ _ _ broken refused.status refused.shown
