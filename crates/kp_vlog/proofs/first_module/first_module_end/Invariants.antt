use Rattle.std.proofs.Common.{length}
use Rattle.kp_vlog.proofs.Parting.{Parting}
use Rattle.kp_vlog.proofs.first_module.first_module_end.Given as goal

abbrev pub invariant-loop-len : goal.invariant-loop-len
invariant-loop-len l = Parting l.text l.from l.start l.rest

abbrev pub decreases-loop-len : goal.decreases-loop-len
decreases-loop-len l = length l.rest
