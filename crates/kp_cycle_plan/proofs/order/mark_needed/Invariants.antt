use Rattle.std.proofs.Common.{◌-◌, length}
use Rattle.kp_cycle_plan.specs.Plans.{Needed}
use Rattle.kp_cycle_plan.proofs.order.mark_needed.Given as goal

abbrev pub invariant-loop-above : goal.invariant-loop-above
invariant-loop-above l = Needed l.net (length l.net.nodes - l.above) l.marks
