use Rattle.std.proofs.Common.{◌<◌, ℕ, get_or}
use Rattle.kp_net.specs.declared.node.NodeId.{NodeId}
use Rattle.kp_cycle_plan.specs.Plans.{IsMarked}
use Rattle.kp_cycle_plan.proofs.order.are_done.Given as goal

abbrev pub invariant-loop-k : goal.invariant-loop-k
invariant-loop-k l = (q : ℕ) (d : NodeId) → q < l.k → IsMarked l.done (get_or l.nodes q d).0
