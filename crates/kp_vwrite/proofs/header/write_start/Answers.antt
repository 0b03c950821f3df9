use Rattle.kp_base.specs.Texts.{filled}
use Rattle.kp_vwrite.specs.Texts.{start_text}
use Rattle.kp_vwrite.proofs.header.write_start.Goals as goal

pub returns : goal.returns
unfolding start_text filled
returns g c = rw (c.bytes.ensures.bytes, c.reset_piece.ensures, c.from.ensures) at c.fill.ensures
