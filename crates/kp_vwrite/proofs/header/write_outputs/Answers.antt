use Rattle.kp_base.specs.Texts.{filled}
use Rattle.kp_vwrite.specs.Texts.{outputs_text}
use Rattle.kp_vwrite.proofs.header.write_outputs.Goals as goal

pub returns : goal.returns
unfolding outputs_text filled
returns g c = rw (c.from.ensures, c.from-2.ensures, c.from-3.ensures) at c.fill.ensures
