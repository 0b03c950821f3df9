use Rattle.kp_depth.specs.inner.Descent.{LeadsTo}
use Rattle.kp_depth.proofs.path.descend.Given as goal

abbrev pub invariant-loop-operand : goal.invariant-loop-operand
invariant-loop-operand l = LeadsTo l.net.nodes l.times.inside l.fn.end.0 l.here.0 l.path.items

abbrev pub decreases-loop-operand : goal.decreases-loop-operand
decreases-loop-operand l = l.here.0
