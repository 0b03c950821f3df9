use Rattle.kp_cycle_plan.specs.Plans.{Taken}
use Rattle.kp_cycle_plan.proofs.order.in_batches.Given as goal

abbrev pub invariant-loop-pass : goal.invariant-loop-pass
invariant-loop-pass l = Taken l.nodes l.heads l.done.items l.batched.items
