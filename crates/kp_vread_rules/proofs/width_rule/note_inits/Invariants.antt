use Rattle.std.proofs.Common.{◌≡◌, drop}
use Rattle.kp_base.specs.Findings.{with_answers}
use Rattle.kp_vread_rules.specs.{Faults.in_text, WidthFaults.inits_asked, inner.Asking.names_in, inner.Asking.scope_in}
use Rattle.kp_vread_rules.proofs.width_rule.note_inits.Given as goal

abbrev pub invariant-loop-init : goal.invariant-loop-init
invariant-loop-init l =
    with_answers l.findings (in_text l.text (inits_asked (scope_in l.asked) (names_in l.asked) (drop l.init-index l.inits))) ≡ with_answers l.initial.findings (in_text l.text (inits_asked (scope_in l.asked) (names_in l.asked) l.inits))
