use Rattle.kp_diagram_text.proofs.{InOrder.wrote_as, InOrder.wrote_next, Labelling.start_is}
use Rattle.kp_diagram_text.proofs.labelled.write_labelled_line.Goals as goal

pub returns : goal.returns
returns g c =
    let line = c.args.line.now in
    wrote_next _ _ _ _ _ _ _ _ _ _ _
    (wrote_as _ _ _ _ _ _ _ _ (start_is c.args.width line.entry.number line.entry.cycle c.as_slice.result.now line.label.items c.as_slice.ensures.value) c.write_parts.ensures)
    (wrote_next _ _ _ _ _ _ _ _ _ _ _ c.write_cells.ensures c.put.ensures)
