use Rattle.std.proofs.Common.{◌∙◌, ap, subst}
use Rattle.std.specs.declared.option.Option.{Option}
use Rattle.kp_base.specs.declared.refusal.Refusal.{Refusal}
use Rattle.kp_frontend.specs.Judging.{broken_in}
use Rattle.kp_view_explain.specs.{Explaining.warned, inner.Found.IsOfRule, inner.Found.IsOfTree, declared.explanation.Explanation.Explanation}
use Rattle.kp_view_explain.proofs.Said.{broken_next, broken_said, right_next, right_said, tail_next, tail_said}
use Rattle.kp_view_explain.proofs.of_job.explain_read.Goals as goal

pub returns-in-Some-clause-said : goal.returns-in-Some-clause-said
returns-in-Some-clause-said c =
    let file = c.args.file.now in
    let text = c.args.text.now in
    let said = c.in_ok-explain_rule in
    let shown = subst (λ (r : Refusal). IsOfRule file text r said.field-0) c.e.ensures (said.ensures.status, said.ensures.shown) in
    tail_said file text said.field-0 c.args.strict c.args.parsed.now c.in-Some.place c.requires.read c.in-Some.ensures shown

pub returns-in-Some-clause-next : goal.returns-in-Some-clause-next
returns-in-Some-clause-next c =
    tail_next c.args.file.now c.args.text.now c.in_ok-explain_rule.field-0 c.args.parsed.now c.in-Some.place c.requires.short c.requires.read c.in-Some.ensures

pub returns-in-Some-2-clause-said : goal.returns-in-Some-2-clause-said
returns-in-Some-2-clause-said c =
    let file = c.args.file.now in
    let text = c.args.text.now in
    let read = c.args.parsed.now in
    let broken = subst (λ (o : Option Explanation). IsOfTree file text (broken_in read.job) o) c.in-Some-2.is c.in_ok-said.ensures in
    broken_said file text c.in-Some-2.said c.args.strict read c.requires.read c.in_default.ensures broken

pub returns-in-Some-2-clause-next : goal.returns-in-Some-2-clause-next
returns-in-Some-2-clause-next c =
    let file = c.args.file.now in
    let text = c.args.text.now in
    let read = c.args.parsed.now in
    let broken = subst (λ (o : Option Explanation). IsOfTree file text (broken_in read.job) o) c.in-Some-2.is c.in_ok-said.ensures in
    broken_next file text c.in-Some-2.said read c.requires.short c.requires.read c.in_default.ensures broken

pub returns-in_ok-text-in-None-clause-said : goal.returns-in_ok-text-in-None-clause-said
returns-in_ok-text-in-None-clause-said c =
    let file = c.args.file.now in
    let text = c.args.text.now in
    let read = c.args.parsed.now in
    let none = subst (λ (o : Option Explanation). IsOfTree file text (broken_in read.job) o) c.in-None.is c.in_ok-said.ensures in
    let warns = c.warning_status-status.ensures.status ∙ ap (warned c.args.strict) c.as_slice.ensures.value in
    right_said c.args.strict file text read _ c.in_ok-text-in-None.text.items c.requires.read c.in_default.ensures none c.in_ok-text-in-None.ensures warns

pub returns-in_ok-text-in-None-clause-next : goal.returns-in_ok-text-in-None-clause-next
returns-in_ok-text-in-None-clause-next c =
    let file = c.args.file.now in
    let text = c.args.text.now in
    let read = c.args.parsed.now in
    let none = subst (λ (o : Option Explanation). IsOfTree file text (broken_in read.job) o) c.in-None.is c.in_ok-said.ensures in
    right_next file text c.in_ok-text-in-None.text.items read c.requires.short c.requires.read c.in_default.ensures none
