use Rattle.std.proofs.Common.{◌≡◌, ◌-◌}
use Rattle.kp_stalls.specs.Causes.{nearest}
use Rattle.kp_stalls.proofs.data_hazard.nearest.Given as goal

abbrev pub invariant-loop-j : goal.invariant-loop-j
invariant-loop-j l = nearest l.occupants l.writer l.address (l.stages - l.j) l.j ≡ nearest l.occupants l.writer l.address (l.stages - l.from) l.from
