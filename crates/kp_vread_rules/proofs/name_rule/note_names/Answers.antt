use Rattle.std.proofs.Common.{◌∙◌, ap, drop, map, sym}
use Rattle.std.specs.Prelude.{option_map}
use Rattle.kp_base.specs.Findings.{with_answer}
use Rattle.kp_vread_rules.{specs.Faults.in_text, specs.Faults.placed, specs.NameFaults.names_asked, specs.inner.Listed.occurrence_of, proofs.Noting.full, proofs.Turns.turn}
use Rattle.kp_vread_rules.proofs.name_rule.note_names.Goals as goal

pub loop-occurrence-preserved : goal.loop-occurrence-preserved
loop-occurrence-preserved c =
    turn c.args.text.now (map occurrence_of c.args.names.now) c.args.names.now c.loop-occurrence.occurrence-index c.occurrence-item.result c.loop-occurrence.known c.learn.new.known
    c.loop-occurrence.findings c.note.new.self c.loop-occurrence-test.true c.occurrence-item.is
    (c.in_ok-note.ensures ∙ ap (with_answer c.loop-occurrence.findings) (c.placed.ensures ∙ ap (option_map (placed c.args.text.now)) c.wrong_name.ensures)) c.in_ok-learn.ensures
    ∙ c.loop-occurrence.invariant

pub returns-then-is_full : goal.returns-then-is_full
returns-then-is_full c =
    let all = map occurrence_of c.args.names.now in
    full c.loop-occurrence.findings (in_text c.args.text.now (names_asked all c.loop-occurrence.known (map occurrence_of (drop c.loop-occurrence.occurrence-index c.args.names.now))))
    (sym c.is_full.ensures ∙ c.if-is_full.true)
    ∙ c.loop-occurrence.invariant
