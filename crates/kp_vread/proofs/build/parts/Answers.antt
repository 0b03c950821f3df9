use Rattle.std.{proofs.Common.◌∙◌, proofs.Common.List, proofs.Common.map, proofs.Common.refl, proofs.Common.ap, specs.Prelude.codes}
use Rattle.kp_vlog.specs.{declared.tree.Item.Item, declared.tree.VPort.VPort, Denote.sample_of}
use Rattle.kp_vread.{specs.inner.Parts.output_by, proofs.Beside.parts_same}
use Rattle.kp_vread.proofs.build.parts.Goals as goal

pub returns : goal.returns
returns c = λ ks a h.
    let m = c.args.whole.now in
    let wires = c.args.wires.now in
    parts_same m wires ks c.args.numbers.now.sizes _ _ _ _ _ _ _ _ _
    (c.in_ok-name.ensures ∙ c.bytes.ensures.bytes) refl c.is_some.ensures
    (c.new-2.ensures ∙ c.in_ok-samples.ensures ∙ ap (λ (xs : List VPort). map sample_of xs) c.as_slice.ensures)
    (c.new-3.ensures ∙ c.in_ok-regs.ensures ks a)
    (c.new-4.ensures ∙ c.in_ok-files.ensures)
    (c.output.ensures ∙ ap (λ (xs : List Item). output_by wires (codes "full") xs) c.as_slice-items.ensures)
    (c.output-2.ensures ∙ ap (λ (xs : List Item). output_by wires (codes "ue") xs) c.as_slice-items.ensures)
    (c.output-3.ensures ∙ ap (λ (xs : List Item). output_by wires (codes "back") xs) c.as_slice-items.ensures)
    a h
