use Rattle.kp_base.proofs.Writing.{◌▷◌}
use Rattle.kp_vwrite.proofs.state.write_contents.Goals as goal

pub returns : goal.returns
returns g c = c.write_fill.ensures ▷ (rw (c.bytes.ensures.bytes, c.as_slice.ensures) at c.write_words.ensures)
