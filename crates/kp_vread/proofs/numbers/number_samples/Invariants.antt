use Rattle.std.proofs.Common.{◌≤◌, take, map}
use Rattle.kp_vread.specs.inner.Numbering.{AreNumbered}
use Rattle.kp_vread.proofs.numbers.number_samples.Given as goal

abbrev pub invariant-loop-port : goal.invariant-loop-port
invariant-loop-port l = (l.places.count ≤ l.port-index) × AreNumbered l.places (map (λ p. p.port.name) (take l.port-index l.ports))
