use Rattle.kp_cycle_plan.specs.Plans.{Leads}
use Rattle.kp_cycle_plan.proofs.order.heads_of.Given as goal

abbrev pub invariant-loop-i : goal.invariant-loop-i
invariant-loop-i l = Leads l.net l.i
