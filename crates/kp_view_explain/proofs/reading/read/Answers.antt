use Rattle.std.proofs.Common.{Err, subst}
use Rattle.kp_base.specs.declared.refusal.Refused.{Refused}
use Rattle.kp_lex.specs.Text.{AnswersOutcome}
use Rattle.kp_frontend.specs.inner.Reading.IsUnread.{wrong_tokens}
use Rattle.kp_view_explain.proofs.Next.{lists_no_tokens}
use Rattle.kp_view_explain.proofs.reading.read.Goals as goal

pub returns-in_ok-said-in-Err-Rule : goal.returns-in_ok-said-in-Err-Rule
returns-in_ok-said-in-Err-Rule c =
    let file = c.args.file.now in
    let text = c.args.text.now in
    let refusal = c.in-Err-Rule.refusal in
    let said = c.in_ok-said-in-Err-Rule in
    let outcome = subst (λ (r : Refused). AnswersOutcome text (Err r)) c.in-Err-Rule.field-0-is c.in-Err-Rule.ensures in
    (refusal, wrong_tokens outcome, (said.ensures.status, said.ensures.shown), lists_no_tokens file text said.said.text.items refusal outcome)
