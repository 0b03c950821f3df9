use Rattle.kp_base.proofs.Writing.{◌▷◌}
use Rattle.kp_stalls_text.proofs.text.write_report.Goals as goal

pub returns : goal.returns
returns g c = (rw c.lines.ensures at c.write_lines.ensures) ▷ c.write_sums.ensures
