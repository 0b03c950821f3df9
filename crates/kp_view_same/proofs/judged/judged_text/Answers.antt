use Rattle.std.proofs.Common.{◌∙◌, Err, ap, subst, Result}
use Rattle.kp_base.specs.declared.refusal.Refused.{Refused}
use Rattle.kp_frontend.specs.{Accepting.AnswersText, declared.accepted.Accepted.Accepted}
use Rattle.kp_view_same.proofs.Judging.{refused}
use Rattle.kp_view_same.proofs.judged.judged_text.Goals as goal

pub returns-in_ok-explain-in-Err-Rule : goal.returns-in_ok-explain-in-Err-Rule
returns-in_ok-explain-in-Err-Rule c =
    refused c.args.file.now c.args.text.now c.in-Err-Rule.field-0-0 c.in_ok-explain-in-Err-Rule.field-0 c.requires
    (subst (λ (r : Result Accepted Refused). AnswersText c.args.text.now r) (c.in-Err-Rule.is ∙ ap Err c.in-Err-Rule.field-0-is) c.judge.ensures)
    c.in_ok-explain-in-Err-Rule.ensures.said
