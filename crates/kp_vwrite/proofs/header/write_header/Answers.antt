use Rattle.kp_base.proofs.Writing.{◌▷◌}
use Rattle.kp_vwrite.proofs.header.write_header.Goals as goal

pub returns : goal.returns
returns g c =
    (rw c.parts-parts.ensures.parts at c.write_start.ensures)
    ▷ ((rw (c.as_slice.ensures, c.parts-parts.ensures.parts) at c.write_samples.ensures)
    ▷ (rw (c.width_of-full.ensures.value, c.width_of-ue.ensures.value, c.width_of-back.ensures.value, c.parts-parts.ensures.parts) at c.write_outputs.ensures))
