use Rattle.std.proofs.Common.{◌≡◌, drop}
use Rattle.kp_vread.specs.Matching.{of_ports}
use Rattle.kp_vread.proofs.job_match.of_ports.Given as goal

abbrev pub invariant-loop-decl : goal.invariant-loop-decl
invariant-loop-decl l = of_ports l.decl (drop l.decl l.decls) l.left ≡ of_ports 0 l.decls l.ports
