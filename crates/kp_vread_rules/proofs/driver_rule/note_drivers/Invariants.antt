use Rattle.std.proofs.Common.{◌≡◌, drop, map}
use Rattle.kp_base.specs.Findings.{with_answers}
use Rattle.kp_vread_rules.specs.{Faults.in_text, inner.Driving.asked_in, inner.Listed.occurrence_of}
use Rattle.kp_vread_rules.proofs.driver_rule.note_drivers.Given as goal

abbrev pub invariant-loop-occurrence : goal.invariant-loop-occurrence
invariant-loop-occurrence l =
    with_answers l.findings (in_text l.text (asked_in l.asked l.so_far (map occurrence_of (drop l.occurrence-index l.asked.names.now))))
    ≡ with_answers l.initial.findings (in_text l.text (asked_in l.asked l.initial.so_far (map occurrence_of l.asked.names.now)))
