use Rattle.std.proofs.Common.{◌≡◌, ◌≤◌, drop, length}
use Rattle.kp_equiv.specs.{Wiring.bits_of_parts, inner.Bits.bits_in}
use Rattle.kp_equiv.proofs.wires.joined.Given as goal

abbrev pub invariant-parts : goal.invariant-parts
invariant-parts l = (l.left ≤ length l.fn.parts) × (l.bits.items ≡ bits_of_parts (bits_in l.operands) (drop l.left l.fn.parts))

abbrev pub decreases-parts : goal.decreases-parts
decreases-parts l = l.left
