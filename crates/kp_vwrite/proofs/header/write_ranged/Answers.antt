use Rattle.kp_base.specs.Texts.{filled}
use Rattle.kp_vwrite.specs.Texts.{ranged_text}
use Rattle.kp_vwrite.proofs.header.write_ranged.Goals as goal

pub returns : goal.returns
unfolding ranged_text filled
returns g c = rw c.from.ensures at c.fill.ensures
