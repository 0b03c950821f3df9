use Rattle.std.proofs.Common.{◌≡◌, map}
use Rattle.std.specs.List.{range_with_len}
use Rattle.kp_equiv.specs.declared.bit.Bit.TheVariants.{Of}
use Rattle.kp_equiv.proofs.wires.own.Given as goal

abbrev pub invariant-loop-k : goal.invariant-loop-k
invariant-loop-k l = l.bits.items ≡ map (Of l.number) (range_with_len 0 l.k)
