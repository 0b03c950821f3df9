use Rattle.kp_base.specs.Texts.{filled}
use Rattle.kp_base.proofs.Writing.{◌▷◌}
use Rattle.kp_vwrite.proofs.nodes.write_binary.Goals as goal

pub returns : goal.returns
unfolding filled
returns g c = c.put.ensures ▷ ((rw c.from.ensures at c.number.ensures) ▷ ((rw c.sign_of.ensures at c.put-2.ensures) ▷ (rw c.from-2.ensures at c.fill.ensures)))
