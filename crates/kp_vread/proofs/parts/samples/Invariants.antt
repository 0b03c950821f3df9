use Rattle.std.proofs.Common.{◌≡◌, ◌++◌, drop, map}
use Rattle.kp_vlog.specs.Denote.{sample_of}
use Rattle.kp_vread.proofs.parts.samples.Given as goal

abbrev pub invariant-loop-port : goal.invariant-loop-port
invariant-loop-port l = l.all.items ++ map sample_of (drop l.port-index l.ports) ≡ map sample_of l.ports
