use Rattle.kp_diagram_text.proofs.InOrder.{wrote_next}
use Rattle.kp_diagram_text.proofs.pieces.write_column.Goals as goal

pub returns : goal.returns
returns g c = wrote_next _ _ _ _ _ _ _ _ _ _ _ (rw c.saturating_sub-room.ensures at c.write_spaces.ensures) c.put.ensures
