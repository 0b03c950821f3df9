-- The remaining bytes, read after those that are read, yield the value of all of them.
use Rattle.std.proofs.Common.{◌≡◌, ◌<◌, ◌^◌, drop, fold}
use Rattle.kp_bits.specs.Literals.{numeral_value, numeral_next}
use Rattle.kp_bits.proofs.literal.read_numeral.Given as goal

abbrev pub invariant-loop-digit : goal.invariant-loop-digit
invariant-loop-digit l =
    (fold (numeral_next l.base) l.value (drop l.digit-index l.digits) ≡ numeral_value l.base l.digits) × (l.value < 2 ^ 64)
