use Rattle.kp_cycle_plan.specs.Plans.{Taken}
use Rattle.kp_cycle_plan.proofs.order.take_ready.Given as goal

abbrev pub invariant-loop-k : goal.invariant-loop-k
invariant-loop-k l = Taken l.nodes l.heads l.done l.batched.items
