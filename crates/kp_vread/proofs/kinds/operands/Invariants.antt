use Rattle.std.proofs.Common.{◌≡◌, ◌++◌, drop, map}
use Rattle.kp_vread.specs.inner.Building.{node_by}
use Rattle.kp_vread.proofs.kinds.operands.Given as goal

abbrev pub invariant-loop-part : goal.invariant-loop-part
invariant-loop-part l = l.nodes.items ++ map (node_by l.wires) (drop l.part-index l.parts) ≡ map (node_by l.wires) l.parts
