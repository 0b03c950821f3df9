use Rattle.std.{proofs.Common.◌≡◌, proofs.Common.drop, specs.List.list_all, specs.Char.is_digit}
use Rattle.kp_vcd.proofs.forms.are_digits.Given as goal

abbrev pub invariant-loop-byte : goal.invariant-loop-byte
invariant-loop-byte l = list_all (λ c. is_digit c 10) (drop l.byte-index l.bytes) ≡ list_all (λ c. is_digit c 10) l.bytes
