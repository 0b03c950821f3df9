use Rattle.std.proofs.Common.{◌≡◌, ◌≤◌, drop}
use Rattle.kp_base.specs.Findings.{with_answers}
use Rattle.kp_vread_rules.specs.{Faults.in_text, inner.Asking.names_in, inner.Sizing.items_by}
use Rattle.kp_vread_rules.proofs.width_rule.note_items.Given as goal

abbrev pub invariant-loop-item : goal.invariant-loop-item
invariant-loop-item l =
    (l.files ≤ l.item-index) × (with_answers l.findings (in_text l.text (items_by l.asked.sizes.now (names_in l.asked) l.files (drop l.item-index l.items))) ≡ with_answers l.initial.findings (in_text l.text (items_by l.asked.sizes.now (names_in l.asked) 0 l.items)))
