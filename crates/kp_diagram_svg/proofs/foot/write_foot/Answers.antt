use Rattle.kp_base.proofs.Writing.{◌▷◌}
use Rattle.kp_diagram_svg.proofs.foot.write_foot.Goals as goal

pub returns : goal.returns
returns g c = c.write_table.ensures ▷ (c.write_rate_shown.ensures ▷ c.put.ensures)
