use Rattle.kp_base.proofs.Writing.{◌▷◌}
use Rattle.kp_stalls_text.proofs.lines.write_line.Goals as goal

pub returns : goal.returns
returns g c = c.fill.ensures ▷ c.write_cause.ensures
