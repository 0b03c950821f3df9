-- The written digits followed by the remaining ones are the complete text.
use Rattle.std.proofs.Common.{◌≡◌, ◌-◌, ◌++◌, take}
use Rattle.kp_bits.specs.Spelling.{hex_digits}
use Rattle.kp_bits.proofs.spelling.write_hex.Given as goal

abbrev pub invariant-loop-i : goal.invariant-loop-i
invariant-loop-i l = take l.i l.out ++ hex_digits (l.count - l.i) l.n ≡ hex_digits l.count l.n
