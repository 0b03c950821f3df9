use Rattle.std.proofs.Common.{◌≡◌, drop, map}
use Rattle.kp_base.specs.Findings.{with_answers}
use Rattle.kp_vread_rules.specs.{Faults.in_text, NameFaults.names_asked, inner.Listed.occurrence_of}
use Rattle.kp_vread_rules.proofs.name_rule.note_names.Given as goal

abbrev pub invariant-loop-occurrence : goal.invariant-loop-occurrence
invariant-loop-occurrence l =
    let all = map occurrence_of l.names in
    with_answers l.findings (in_text l.text (names_asked all l.known (map occurrence_of (drop l.occurrence-index l.names)))) ≡ with_answers l.initial.findings (in_text l.text (names_asked all l.initial.known all))
