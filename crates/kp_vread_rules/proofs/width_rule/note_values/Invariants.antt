use Rattle.std.proofs.Common.{◌≡◌, drop}
use Rattle.kp_base.specs.Findings.{with_answers}
use Rattle.kp_vread_rules.specs.{Faults.in_text, WidthFaults.values_asked, inner.Asking.names_in, inner.Asking.scope_in}
use Rattle.kp_vread_rules.proofs.width_rule.note_values.Given as goal

abbrev pub invariant-loop-value : goal.invariant-loop-value
invariant-loop-value l =
    with_answers l.findings (in_text l.text (values_asked (scope_in l.asked) (names_in l.asked) (drop l.value-index l.values))) ≡ with_answers l.initial.findings (in_text l.text (values_asked (scope_in l.asked) (names_in l.asked) l.values))
