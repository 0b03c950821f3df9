use Rattle.kp_base.proofs.Writing.{◌▷◌}
use Rattle.kp_vwrite.proofs.state.write_with_reset.Goals as goal

pub returns : goal.returns
returns g c = c.put.ensures ▷ ((rw c.as_slice.ensures at c.write_values.ensures) ▷ (c.put-2.ensures ▷ (c.write_changes.ensures ▷ c.put-3.ensures)))
