use Rattle.std.proofs.Common.{◌∙◌, List, ap}
use Rattle.kp_vlog.specs.declared.tree.{Item.Item, Init.Init, Update.Update}
use Rattle.kp_vread.specs.inner.{Building.Numbers, Parts.files_by}
use Rattle.kp_vread.proofs.build.all_files.Goals as goal

pub returns : goal.returns
returns c =
    let m = c.args.whole.now in
    let wires = c.args.wires.now in
    let ss = c.args.numbers.now.sizes in
    c.in_ok-files.ensures
    ∙ ap (λ (t : Numbers). files_by t.sizes wires c.as_slice.result.now c.as_slice-2.result.now c.as_slice-3.result.now) c.numbers.view_is
    ∙ ap (λ (xs : List Init). files_by ss wires xs c.as_slice-2.result.now c.as_slice-3.result.now) c.as_slice.ensures
    ∙ ap (λ (xs : List Update). files_by ss wires m.inits xs c.as_slice-3.result.now) c.as_slice-2.ensures
    ∙ ap (λ (xs : List Item). files_by ss wires m.inits m.updates xs) c.as_slice-3.ensures
