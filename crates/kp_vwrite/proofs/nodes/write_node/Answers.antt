use Rattle.kp_base.specs.Texts.{filled}
use Rattle.kp_base.proofs.Writing.{◌▷◌}
use Rattle.kp_vwrite.specs.Texts.{front_text}
use Rattle.kp_vwrite.proofs.nodes.write_node.Goals as goal

pub returns : goal.returns
unfolding front_text filled
returns g c = (rw c.from-top.ensures at c.fill.ensures) ▷ c.write_right.ensures
