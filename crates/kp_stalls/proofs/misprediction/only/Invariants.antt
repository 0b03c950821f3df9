use Rattle.std.proofs.Common.{◌≡◌, None, drop}
use Rattle.kp_stalls.specs.Causes.{only_open}
use Rattle.kp_stalls.proofs.misprediction.only.Given as goal

abbrev pub invariant-loop-i : goal.invariant-loop-i
invariant-loop-i l = only_open l.sites l.occupants l.k l.found l.i (drop l.i l.reads) ≡ only_open l.sites l.occupants l.k None 0 l.sites.reads
