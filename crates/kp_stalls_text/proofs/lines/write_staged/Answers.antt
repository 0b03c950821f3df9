use Rattle.kp_base.proofs.Writing.{◌▷◌}
use Rattle.kp_stalls_text.proofs.lines.write_staged.Goals as goal

pub returns : goal.returns
returns g c = c.put.ensures ▷ ((rw c.names.ensures at c.write_stage.ensures) ▷ c.put-2.ensures)
