use Rattle.std.proofs.Common.{◌≤◌, take}
use Rattle.kp_vlog.specs.Scope.{reg_names}
use Rattle.kp_vread.specs.inner.Numbering.{AreNumbered}
use Rattle.kp_vread.proofs.numbers.number_regs.Given as goal

abbrev pub invariant-loop-item : goal.invariant-loop-item
invariant-loop-item l = (l.places.count ≤ l.item-index) × AreNumbered l.places (reg_names (take l.item-index l.items))
