use Rattle.std.proofs.Common.{◌∙◌, Err, ap, refl, subst}
use Rattle.std.specs.declared.result.Result.{Result}
use Rattle.kp_base.specs.declared.refusal.Refused.{Refused}
use Rattle.kp_frontend.specs.{Accepting.AnswersHead, declared.accepted.Head.Head}
use Rattle.kp_view_explain.proofs.{Inputs.of_script, Inputs.refused, Next.accepted_head_next}
use Rattle.kp_view_explain.specs.declared.words.Subject.TheVariants as subjects
use Rattle.kp_view_explain.proofs.script.explain_debugged.Goals as goal

pub returns-in_ok-said-in-Ok-clause-said : goal.returns-in_ok-said-in-Ok-clause-said
returns-in_ok-said-in-Ok-clause-said c =
    let head = c.in-Ok.head in
    of_script c.args.file.now c.args.text.now head.job.design.job head.rest _ _ c.in-Ok.ensures.answer c.in_ok-said-in-Ok.ensures.said

pub returns-in_ok-explain_head-in-Err-Rule-clause-said : goal.returns-in_ok-explain_head-in-Err-Rule-clause-said
returns-in_ok-explain_head-in-Err-Rule-clause-said c strict =
    let text = c.args.text.now in
    let judged = subst (λ (r : Result Head Refused). AnswersHead text r) (c.in-Err-Rule.is ∙ ap Err c.in-Err-Rule.field-0-is) c.judge_head.ensures.answer in
    let refusal = c.in-Err-Rule.refusal in
    let said = c.in_ok-explain_head-in-Err-Rule in
    refused subjects.Debugged strict c.args.file.now text said.field-0.text.items refusal _ _ (Err refusal, judged, refl) said.ensures.status (Err refusal, judged, refl) said.ensures.shown

pub returns-in_ok-said-in-Ok-clause-next : goal.returns-in_ok-said-in-Ok-clause-next
returns-in_ok-said-in-Ok-clause-next c =
    let head = c.in-Ok.head in
    accepted_head_next c.args.file.now c.args.text.now c.in_ok-said-in-Ok.said.text.items head.job.design.job head.rest c.requires c.in-Ok.ensures.answer
