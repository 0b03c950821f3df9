use Rattle.std.proofs.Common.{Ok, Err, subst, ap, ◌∙◌, List}
use Rattle.kp_base.specs.declared.refusal.Refused.{Refused}
use Rattle.kp_lex.specs.declared.token.Token.{Token}
use Rattle.kp_parse.specs.Sentence.{AnswersTree}
use Rattle.kp_frontend.proofs.Judged.{parsed}
use Rattle.kp_frontend.specs.inner.Reading.IsUnread.{wrong_sentence}
use Rattle.kp_view_explain.specs.inner.Naming.{NamesAt}
use Rattle.kp_view_explain.proofs.Next.{lists_token}
use Rattle.kp_view_explain.proofs.reading.read_tokens.Goals as goal

pub returns-in-Ok : goal.returns-in-Ok
returns-in-Ok c = parsed c.args.text.now c.args.lexed.now (Ok c.in-Ok.parsed) c.requires.short c.requires.tokens c.in-Ok.ensures.answer c.in-Ok.ensures.few

pub returns-in_ok-said-in-Err-Rule : goal.returns-in_ok-said-in-Err-Rule
returns-in_ok-said-in-Err-Rule c =
    let file = c.args.file.now in
    let text = c.args.text.now in
    let lexed = c.args.lexed.now in
    let refusal = c.in-Err-Rule.refusal in
    let said = c.in_ok-said-in-Err-Rule in
    let breaks = subst (λ (r : Refused). AnswersTree text lexed.tokens lexed.rest (Err r)) c.in-Err-Rule.field-0-is c.in-Err-Rule.ensures.answer in
    let message = c.in_ok-message-in-Err-Rule in
    let names = subst (λ (ts : List Token). NamesAt text ts refusal message.message) c.as_slice.ensures message.ensures in (
      refusal,
      wrong_sentence c.requires.tokens breaks,
      (said.ensures.status, said.ensures.shown),
      lists_token file text said.said.text.items lexed refusal message.message c.requires.tokens names said.ensures.message,
    )
