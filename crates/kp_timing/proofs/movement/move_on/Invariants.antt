use Rattle.std.proofs.Common.{◌≡◌, ◌≤◌, ◌-◌, length}
use Rattle.kp_timing.specs.inner.Deciding.{taken_down}
use Rattle.kp_timing.proofs.movement.move_on.Given as goal

abbrev pub invariant-loop-k : goal.invariant-loop-k
invariant-loop-k l = record {
  below : l.k ≤ l.stages;
  holds : length l.held.hold ≡ 12;
  flights : length l.held.recorded ≡ length l.initial.held.recorded;
  moved : taken_down l.blocked (l.k - 1) l.held ≡ taken_down l.blocked (l.stages - 1) l.initial.held;
}

abbrev pub decreases-loop-k : goal.decreases-loop-k
decreases-loop-k l = l.k
