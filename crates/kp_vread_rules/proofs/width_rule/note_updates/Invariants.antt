use Rattle.std.proofs.Common.{◌≡◌, drop}
use Rattle.kp_base.specs.Findings.{with_answers}
use Rattle.kp_vread_rules.specs.{Faults.in_text, WidthFaults.updates_asked, inner.Asking.names_in, inner.Asking.scope_in}
use Rattle.kp_vread_rules.proofs.width_rule.note_updates.Given as goal

abbrev pub invariant-loop-update : goal.invariant-loop-update
invariant-loop-update l =
    with_answers l.findings (in_text l.text (updates_asked (scope_in l.asked) (names_in l.asked) (drop l.update-index l.updates))) ≡ with_answers l.initial.findings (in_text l.text (updates_asked (scope_in l.asked) (names_in l.asked) l.updates))
