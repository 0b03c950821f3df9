use Rattle.std.proofs.Common.{◌≤◌, take}
use Rattle.kp_vlog.specs.Scope.{file_names}
use Rattle.kp_vread.specs.inner.Numbering.{AreNumbered}
use Rattle.kp_vread.proofs.numbers.number_files.Given as goal

abbrev pub invariant-loop-item : goal.invariant-loop-item
invariant-loop-item l = (l.places.count ≤ l.item-index) × AreNumbered l.places (file_names (take l.item-index l.items))
