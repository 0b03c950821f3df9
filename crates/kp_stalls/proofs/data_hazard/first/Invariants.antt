use Rattle.std.proofs.Common.{◌≡◌, drop}
use Rattle.kp_stalls.specs.Causes.{first_wait}
use Rattle.kp_stalls.proofs.data_hazard.first.Given as goal

abbrev pub invariant-loop-i : goal.invariant-loop-i
invariant-loop-i l = first_wait l.sites l.occupants l.k l.i (drop l.i l.reads) ≡ first_wait l.sites l.occupants l.k 0 l.sites.reads
