use Rattle.kp_diagram_text.proofs.InOrder.{wrote_next}
use Rattle.kp_diagram_text.proofs.window.write_window_head.Goals as goal

pub returns : goal.returns
returns g c = wrote_next _ _ _ _ _ _ _ _ _ _ _ c.write_window_title.ensures (wrote_next _ _ _ _ _ _ _ _ _ _ _ c.write_numbers.ensures c.put.ensures)
