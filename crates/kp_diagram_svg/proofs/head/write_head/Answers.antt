use Rattle.kp_base.proofs.Writing.{◌▷◌}
use Rattle.kp_diagram_svg.proofs.head.write_head.Goals as goal

pub returns : goal.returns
returns g c = (rw (c.from.ensures, c.width.ensures, c.height.ensures) at c.write_title.ensures) ▷ c.write_shapes.ensures
