use Rattle.std.{proofs.Common.◌≡◌, proofs.Common.◌++◌, proofs.Common.take, specs.Prelude.flat_map}
use Rattle.kp_core_ports.specs.{PortTexts.line_text, Core.comment}
use Rattle.kp_core_ports.proofs.text.lines.Given as goal

abbrev pub invariant-loop-port : goal.invariant-loop-port
invariant-loop-port l = l.text.items ≡ comment ++ flat_map (line_text l.net l.layout) (take l.port-index l.ports)
