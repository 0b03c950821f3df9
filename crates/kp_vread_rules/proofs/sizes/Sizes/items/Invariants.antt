use Rattle.std.proofs.Common.{◌≤◌, ◌++◌, drop, length}
use Rattle.kp_vlog.specs.Scope.{item_sizes}
use Rattle.kp_vread_rules.specs.Tables.{AlikeSizes}
use Rattle.kp_vread_rules.proofs.sizes.Sizes.items.Given as goal

abbrev pub invariant-items : goal.invariant-items
invariant-items l = (l.left ≤ length l.fn.items) × AlikeSizes l.self (item_sizes (drop l.left l.fn.items) ++ l.initial.self)

abbrev pub decreases-items : goal.decreases-items
decreases-items l = l.left
