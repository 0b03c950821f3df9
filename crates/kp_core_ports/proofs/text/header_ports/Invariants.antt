use Rattle.std.{proofs.Common.◌≡◌, proofs.Common.take, specs.Prelude.flat_map}
use Rattle.kp_core_ports.specs.PortTexts.{header_text}
use Rattle.kp_core_ports.proofs.text.header_ports.Given as goal

abbrev pub invariant-loop-port : goal.invariant-loop-port
invariant-loop-port l = l.text.items ≡ flat_map (header_text l.layout) (take l.port-index l.ports)
