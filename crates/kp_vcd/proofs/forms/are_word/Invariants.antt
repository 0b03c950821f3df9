use Rattle.std.{proofs.Common.◌≡◌, proofs.Common.drop, specs.List.list_all}
use Rattle.kp_base.specs.Characters.{is_word}
use Rattle.kp_vcd.proofs.forms.are_word.Given as goal

abbrev pub invariant-loop-byte : goal.invariant-loop-byte
invariant-loop-byte l = list_all is_word (drop l.byte-index l.bytes) ≡ list_all is_word l.bytes
