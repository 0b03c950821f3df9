use Rattle.std.proofs.Common.{◌≤◌, ◌++◌, drop, map, length}
use Rattle.kp_vlog.specs.Scope.{port_size}
use Rattle.kp_vread_rules.specs.Tables.{AlikeSizes}
use Rattle.kp_vread_rules.proofs.sizes.Sizes.ports.Given as goal

abbrev pub invariant-ports : goal.invariant-ports
invariant-ports l = (l.left ≤ length l.fn.ports) × AlikeSizes l.self (map port_size (drop l.left l.fn.ports) ++ l.initial.self)

abbrev pub decreases-ports : goal.decreases-ports
decreases-ports l = l.left
