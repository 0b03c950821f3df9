use Rattle.std.proofs.Common.{◌≡◌, ap}
use Rattle.std.proofs.lemmas.Result.{on_ok_weaker}
use Rattle.kp_base.specs.Findings.{with_answers}
use Rattle.kp_vread_rules.specs.{Faults.in_text, WidthFaults.samples_asked, WidthFaults.outputs_asked}
use Rattle.kp_vread_rules.proofs.Noting.{header_noted}
use Rattle.kp_vread_rules.proofs.width_rule.note_header.Goals as goal

pub returns : goal.returns
returns c =
    let text = c.args.text.now in
    on_ok_weaker c.note_outputs.result (λ (e : c.note_outputs.new.findings ≡ with_answers c.note_samples.new.findings (in_text text (outputs_asked c.args.whole.now))).
    header_noted text c.args.findings.now c.note.new.self c.note_samples.new.findings c.note_outputs.new.findings c.wrong_stall.result _ c.placed.result (samples_asked c.as_slice.result.now)
    (outputs_asked c.args.whole.now) (samples_asked c.args.whole.now.samples) c.in_ok-note.ensures c.placed.ensures c.wrong_stall.ensures c.in_ok-note_samples.ensures (ap samples_asked c.as_slice.ensures) e)
    c.note_outputs.ensures
