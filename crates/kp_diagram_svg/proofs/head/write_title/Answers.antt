use Rattle.kp_diagram_svg.proofs.head.write_title.Goals as goal

pub returns : goal.returns
returns g c = rw c.plural-s.ensures at c.fill.ensures
