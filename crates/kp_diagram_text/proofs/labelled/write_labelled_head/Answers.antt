use Rattle.kp_diagram_text.proofs.InOrder.{wrote_next}
use Rattle.kp_diagram_text.proofs.labelled.write_labelled_head.Goals as goal

pub returns : goal.returns
returns g c =
    wrote_next _ _ _ _ _ _ _ _ _ _ _ c.write_span_title.ensures
    (wrote_next _ _ _ _ _ _ _ _ _ _ _ c.put.ensures (wrote_next _ _ _ _ _ _ _ _ _ _ _ c.write_numbers.ensures c.put-2.ensures))
