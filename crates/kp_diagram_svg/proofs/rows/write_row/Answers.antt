use Rattle.kp_base.proofs.Writing.{◌▷◌}
use Rattle.kp_diagram_svg.proofs.rows.write_row.Goals as goal

pub returns : goal.returns
returns g c = c.write_row_start.ensures ▷ (c.write_cells.ensures ▷ c.put.ensures)
