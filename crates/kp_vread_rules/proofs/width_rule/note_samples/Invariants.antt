use Rattle.std.proofs.Common.{◌≡◌, drop}
use Rattle.kp_base.specs.Findings.{with_answers}
use Rattle.kp_vread_rules.specs.{Faults.in_text, WidthFaults.samples_asked}
use Rattle.kp_vread_rules.proofs.width_rule.note_samples.Given as goal

abbrev pub invariant-loop-port : goal.invariant-loop-port
invariant-loop-port l =
    with_answers l.findings (in_text l.text (samples_asked (drop l.port-index l.ports))) ≡ with_answers l.initial.findings (in_text l.text (samples_asked l.ports))
