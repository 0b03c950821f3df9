use Rattle.std.proofs.Common.{◌∙◌, ap, drop, map, sym}
use Rattle.std.specs.Prelude.{option_map}
use Rattle.kp_base.specs.Findings.{with_answer}
use Rattle.kp_vread_rules.{specs.Faults.in_text, specs.Faults.placed, specs.inner.Driving.asked_in, specs.inner.Listed.occurrence_of, proofs.Noting.full, proofs.Drives.turn}
use Rattle.kp_vread_rules.proofs.driver_rule.note_drivers.Goals as goal

pub loop-occurrence-preserved : goal.loop-occurrence-preserved
loop-occurrence-preserved c =
    let asked = c.args.asked.now in
    turn (map occurrence_of asked.names.now) asked.resets asked.all.now c.args.text.now asked.names.now c.loop-occurrence.occurrence-index c.occurrence-item.result c.loop-occurrence.so_far c.drive.new.self
    c.loop-occurrence.findings c.note.new.self c.loop-occurrence-test.true c.occurrence-item.is
    (c.in_ok-note.ensures ∙ ap (with_answer c.loop-occurrence.findings) (c.placed.ensures ∙ ap (option_map (placed c.args.text.now)) c.wrong_driver.ensures)) c.in_ok-drive.ensures
    ∙ c.loop-occurrence.invariant

pub returns-then-is_full : goal.returns-then-is_full
returns-then-is_full c =
    full c.loop-occurrence.findings (in_text c.args.text.now (asked_in c.args.asked.now c.loop-occurrence.so_far (map occurrence_of (drop c.loop-occurrence.occurrence-index c.args.asked.now.names.now))))
    (sym c.is_full.ensures ∙ c.if-is_full.true)
    ∙ c.loop-occurrence.invariant
