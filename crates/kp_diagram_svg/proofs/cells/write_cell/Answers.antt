use Rattle.kp_base.proofs.Writing.{◌▷◌}
use Rattle.kp_diagram_svg.proofs.cells.write_cell.Goals as goal

pub returns : goal.returns
returns g c = (rw c.look_of.ensures at c.write_cell_start.ensures) ▷ ((rw c.name_piece.ensures at c.piece.ensures) ▷ c.put.ensures)
