use Rattle.std.proofs.Common.{◌≡◌, ◌==◌, map}
use Rattle.std.specs.{Int.bit_at, List.range_with_len}
use Rattle.kp_equiv.specs.declared.bit.Bit.TheVariants.{Fixed}
use Rattle.kp_equiv.proofs.wires.fixed.Given as goal

abbrev pub invariant-loop-k : goal.invariant-loop-k
invariant-loop-k l = l.bits.items ≡ map (λ b. Fixed (bit_at l.value b == 1)) (range_with_len 0 l.k)
