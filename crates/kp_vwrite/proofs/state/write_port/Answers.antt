use Rattle.kp_base.specs.Texts.{filled}
use Rattle.kp_vwrite.specs.Texts.{port_text}
use Rattle.kp_vwrite.proofs.state.write_port.Goals as goal

pub returns-in-Some : goal.returns-in-Some
unfolding port_text filled
returns-in-Some g c = rw c.in-Some.is (rw (c.from.ensures, c.bytes.ensures.bytes, c.from-in-Some.ensures, c.from-in-Some-2.ensures) at c.fill.ensures)
