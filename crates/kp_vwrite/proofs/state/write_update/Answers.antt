use Rattle.kp_base.specs.Texts.{filled}
use Rattle.kp_vwrite.specs.Texts.{update_text}
use Rattle.kp_vwrite.proofs.state.write_update.Goals as goal

pub returns : goal.returns
unfolding update_text filled
returns g c = rw (c.bytes.ensures.bytes, c.from.ensures) at c.fill.ensures
