use Rattle.std.proofs.Common.{◌∙◌, ◌+◌, ap, sym, drop}
use Rattle.std.proofs.lemmas.List.{at_drop_more}
use Rattle.kp_base.specs.Findings.{with_answers}
use Rattle.kp_stage.specs.{Rules.asked_at, Rules.asked_by_rules, inner.Tables.facts_in}
use Rattle.kp_base.proofs.Collecting.{append}
use Rattle.kp_stage.proofs.rules.in_rules.Goals as goal

pub loop-rule-preserved : goal.loop-rule-preserved
loop-rule-preserved c =
    let facts = facts_in c.args.facts.now in
    let job = c.args.job.now in
    let i = c.loop-rule.rule-index in
    let rest = asked_by_rules facts job (drop (i + 1) c.args.rules.now) in
    ap (λ n. with_answers n rest) c.in_ok-in_job.ensures
    ∙ sym (append c.loop-rule.notes (asked_at facts job _) rest)
    ∙ sym (at_drop_more (λ rules. with_answers c.loop-rule.notes (asked_by_rules facts job rules)) c.args.rules.now i _ c.loop-rule-test.true)
    ∙ c.loop-rule.invariant
