use Rattle.std.{proofs.Common.◌≡◌, proofs.Common.drop, specs.List.list_all}
use Rattle.kp_vcd.specs.Forms.{is_bit}
use Rattle.kp_vcd.proofs.forms.all_bits.Given as goal

abbrev pub invariant-loop-byte : goal.invariant-loop-byte
invariant-loop-byte l = list_all is_bit (drop l.byte-index l.bytes) ≡ list_all is_bit l.bytes
