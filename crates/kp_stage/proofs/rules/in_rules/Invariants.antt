use Rattle.std.proofs.Common.{◌≡◌, drop}
use Rattle.kp_base.specs.Findings.{with_answers}
use Rattle.kp_stage.specs.{Rules.asked_by_rules, inner.Tables.facts_in}
use Rattle.kp_stage.proofs.rules.in_rules.Given as goal

abbrev pub invariant-loop-rule : goal.invariant-loop-rule
invariant-loop-rule l = with_answers l.notes (asked_by_rules (facts_in l.facts) l.job (drop l.rule-index l.rules)) ≡ with_answers l.initial.notes (asked_by_rules (facts_in l.facts) l.job l.rules)
