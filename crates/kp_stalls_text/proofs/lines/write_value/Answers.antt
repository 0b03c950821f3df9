use Rattle.kp_base.proofs.Writing.{◌▷◌}
use Rattle.kp_stalls_text.proofs.lines.write_value.Goals as goal

pub returns : goal.returns
returns g c = c.write_staged.ensures ▷ (c.write_place.ensures ▷ c.write_writer.ensures)
