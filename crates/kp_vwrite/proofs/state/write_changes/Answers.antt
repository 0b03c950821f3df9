use Rattle.kp_base.proofs.Writing.{◌▷◌}
use Rattle.kp_vwrite.proofs.state.write_changes.Goals as goal

pub returns : goal.returns
returns g c = (rw c.as_slice.ensures at c.write_updates.ensures) ▷ (rw c.as_slice-2.ensures at c.write_ports.ensures)
