use Rattle.std.proofs.Common.{◌≡◌, ◌++◌, drop}
use Rattle.kp_vlog.specs.Occurrences.{samples_names}
use Rattle.kp_vread_rules.proofs.names.Names.samples.Given as goal

abbrev pub invariant-loop-port : goal.invariant-loop-port
invariant-loop-port l = l.self ++ samples_names (drop l.port-index l.ports) ≡ l.initial.self ++ samples_names l.ports
