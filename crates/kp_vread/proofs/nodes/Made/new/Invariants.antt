use Rattle.std.proofs.Common.{◌≤◌, take}
use Rattle.kp_vlog.specs.{Scope.Scope, Denote.made_by}
use Rattle.kp_vread.specs.inner.Building.{IsScope, IsMade}
use Rattle.kp_vread.proofs.nodes.Made.new.Given as goal

abbrev pub invariant-loop-item : goal.invariant-loop-item
invariant-loop-item l = (l.made.wires.count ≤ l.item-index) × ((s : Scope) → IsScope l.numbers s → IsMade l.made.wires l.made.nodes.items (made_by s (take l.item-index l.items)))
