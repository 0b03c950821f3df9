use Rattle.std.proofs.Common.{◌<◌, ℕ, get_or}
use Rattle.kp_cycle_plan.specs.Plans.{IsMarked, Taken}
use Rattle.kp_cycle_plan.proofs.order.take_rest.Given as goal

abbrev pub invariant-loop-k : goal.invariant-loop-k
invariant-loop-k l = Taken l.nodes l.heads l.done l.batched.items × ((q : ℕ) → q < l.k → IsMarked l.done (get_or l.order q 0))
