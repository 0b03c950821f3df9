use Rattle.std.proofs.Common.{take}
use Rattle.kp_depth.specs.{Times.known_time, inner.Latest.Reaches}
use Rattle.kp_depth.proofs.stages.latest.Given as goal

abbrev pub invariant-loop-end : goal.invariant-loop-end
invariant-loop-end l = Reaches (known_time l.times.all.items) l.stage l.sort (take l.end-index l.ends) l.best
