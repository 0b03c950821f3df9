use Rattle.std.proofs.Common.{◌≡◌, ◌-◌}
use Rattle.kp_timing.specs.inner.Deciding.{met_from}
use Rattle.kp_timing.proofs.movement.is_met_from.Given as goal

abbrev pub invariant-loop-k : goal.invariant-loop-k
invariant-loop-k l = met_from l.held l.blocked l.writer l.address (l.stages - l.k) l.k ≡ met_from l.held l.blocked l.writer l.address (l.stages - l.from) l.from
