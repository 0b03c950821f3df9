use Rattle.std.proofs.Common.{◌<◌, ℕ, length}
use Rattle.kp_cycle_plan.specs.Plans.{IsMarked, IsKnown, IsOrdered}
use Rattle.kp_cycle_plan.proofs.order.listed.Given as goal

abbrev pub invariant-loop-i : goal.invariant-loop-i
invariant-loop-i l = IsOrdered l.nodes l.heads l.order.items × ((j : ℕ) → j < l.i → IsMarked l.marks j → IsKnown l.heads l.order.items (length l.order.items) j)
