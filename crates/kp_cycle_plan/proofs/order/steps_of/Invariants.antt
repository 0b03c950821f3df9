use Rattle.std.proofs.Common.{◌≡◌, map, take}
use Rattle.kp_cycle_plan.specs.Plans.{step_for}
use Rattle.kp_cycle_plan.proofs.order.steps_of.Given as goal

abbrev pub invariant-loop-k : goal.invariant-loop-k
invariant-loop-k l = l.steps.items ≡ map (step_for l.nodes) (take l.k l.order)
