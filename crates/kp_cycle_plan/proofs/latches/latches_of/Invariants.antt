use Rattle.kp_cycle_plan.specs.Latches.{IsLatched}
use Rattle.kp_cycle_plan.proofs.latches.latches_of.Given as goal

abbrev pub invariant-loop-r : goal.invariant-loop-r
invariant-loop-r l = IsLatched l.net l.r l.latches.moved.items l.latches.held.items
