use Rattle.kp_equiv.specs.inner.Shapes.{Grown}
use Rattle.kp_equiv.proofs.node_classes.classes_of_net.Given as goal

abbrev pub invariant-loop-n : goal.invariant-loop-n
invariant-loop-n l = Grown l.known l.net l.fn.table l.table l.classes.items l.wires.items l.n-index
