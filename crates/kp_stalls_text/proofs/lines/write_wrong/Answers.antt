use Rattle.kp_base.proofs.Writing.{◌▷◌}
use Rattle.kp_stalls_text.proofs.lines.write_wrong.Goals as goal

pub returns : goal.returns
returns g c = c.write_guess_part.ensures ▷ c.fill.ensures
