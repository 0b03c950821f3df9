-- What is written, followed by the digits that are left, is the complete text.
use Rattle.std.proofs.Common.{◌≡◌, ◌-◌, ◌++◌, take}
use Rattle.kp_vcd.specs.Text.{bit_digits}
use Rattle.kp_vcd.proofs.writer.write_bits.Given as goal

abbrev pub invariant-loop-i : goal.invariant-loop-i
invariant-loop-i l = take l.i l.out ++ bit_digits (l.count - l.i) l.n ≡ bit_digits l.count l.n
