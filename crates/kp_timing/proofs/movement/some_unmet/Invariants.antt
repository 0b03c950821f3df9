use Rattle.std.proofs.Common.{◌≡◌, drop}
use Rattle.kp_timing.specs.inner.Deciding.{some_unmet_from}
use Rattle.kp_timing.proofs.movement.some_unmet.Given as goal

abbrev pub invariant-loop-i : goal.invariant-loop-i
invariant-loop-i l = some_unmet_from l.sites l.held l.blocked l.k l.i (drop l.i l.reads) ≡ some_unmet_from l.sites l.held l.blocked l.k 0 l.reads
