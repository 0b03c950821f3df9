use Rattle.std.proofs.Common.{◌≤◌, drop, length}
use Rattle.kp_vread.specs.inner.Nexts.{AreNexts}
use Rattle.kp_vread.proofs.nexts.Nexts.new.Given as goal

abbrev pub invariant-updates : goal.invariant-updates
invariant-updates l = (l.left ≤ length l.fn.updates) × AreNexts l.wires l.nexts (drop l.left l.fn.updates)

abbrev pub decreases-updates : goal.decreases-updates
decreases-updates l = l.left
