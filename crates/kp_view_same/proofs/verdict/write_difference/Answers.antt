use Rattle.std.proofs.Common.{◌≡◌, ◌∙◌, ◌<◌, List, length, get_or, sym, ap, subst, codes}
use Rattle.kp_machine.specs.{Slots.Slot, Slots.targets_of, Words.no_slot, Words.target}
use Rattle.kp_same.proofs.Sinking.{same_default}
use Rattle.kp_view_same.proofs.Saying.{four_pieces}
use Rattle.kp_view_same.proofs.verdict.write_difference.Goals as goal

pub returns : goal.returns
returns c =
    let job = c.args.design.now.job in
    let t = c.args.difference.target in
    let slots : List Slot = c.in_ok-slots.slots.targets.items in
    let same : slots ≡ targets_of job.decls = c.in_ok-slots.ensures.targets in
    let within : t < length slots = subst (λ (xs : List Slot). t < length xs) (sym same) c.requires in
    let named : c.index.result.now ≡ target job t =
    c.index.ensures ∙ same_default slots t c.index.result.now no_slot within ∙ ap (λ (xs : List Slot). get_or xs t no_slot) same in
    four_pieces c.args.text.now.items (codes "not shown: ") _ _ _ _ _ _ _
    c.in_ok-extend_from_slice.ensures.items c.in_ok-extend_from_slice-2.ensures.items c.in_ok-extend_from_slice-3.ensures.items
    (c.bytes.ensures.bytes ∙ c.name.ensures ∙ ap (λ (s : Slot). s.name) named) c.part_of.ensures
