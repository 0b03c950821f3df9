use Rattle.std.proofs.Common.{◌≡◌, ◌∙◌, ap}
use Rattle.std.proofs.lemmas.Result.{on_ok_weaker}
use Rattle.kp_base.specs.Findings.{with_answers}
use Rattle.kp_vlog.specs.Rules.{reset_values}
use Rattle.kp_vread_rules.specs.{Faults.in_text, WidthFaults.header_asked, WidthFaults.inits_asked, WidthFaults.values_asked, WidthFaults.updates_asked}
use Rattle.kp_vread_rules.specs.inner.{Asking.names_in, Asking.scope_in, Sizing.items_by}
use Rattle.kp_vread_rules.proofs.Noting.{parts_noted}
use Rattle.kp_vread_rules.proofs.width_rule.note_widths.Goals as goal

pub returns : goal.returns
returns c =
    let text = c.args.text.now in
    let m = c.args.whole.now in
    let asked = c.args.asked.now in
    let s = scope_in asked in
    let os = names_in asked in
    on_ok_weaker c.note_updates.result (λ (e : c.note_updates.new.findings ≡ with_answers c.note_reset.new.findings (in_text text (updates_asked s os c.as_slice-3.result.now))).
    parts_noted text c.args.findings.now c.note_header.new.findings c.note_items.new.findings c.note_inits.new.findings c.note_reset.new.findings c.note_updates.new.findings
    (header_asked m) (items_by asked.sizes.now os 0 m.items) (inits_asked s os m.inits) (values_asked s os (reset_values m.reset)) (updates_asked s os m.updates)
    c.in_ok-note_header.ensures
    (c.in_ok-note_items.ensures ∙ ap (λ xs. with_answers c.note_header.new.findings (in_text text (items_by asked.sizes.now os 0 xs))) c.as_slice.ensures)
    (c.in_ok-note_inits.ensures ∙ ap (λ xs. with_answers c.note_items.new.findings (in_text text (inits_asked s os xs))) c.as_slice-2.ensures)
    c.in_ok-note_reset.ensures
    (e ∙ ap (λ xs. with_answers c.note_reset.new.findings (in_text text (updates_asked s os xs))) c.as_slice-3.ensures))
    c.note_updates.ensures
