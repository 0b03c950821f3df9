use Rattle.kp_base.proofs.Writing.{◌▷◌}
use Rattle.kp_vwrite.specs.Texts.{part_text}
use Rattle.kp_vwrite.proofs.nodes.write_part.Goals as goal

pub returns : goal.returns
unfolding part_text
returns g c = c.put.ensures ▷ (rw c.from.ensures at c.number.ensures)
