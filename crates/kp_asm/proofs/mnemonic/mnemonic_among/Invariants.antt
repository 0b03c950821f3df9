use Rattle.std.{proofs.Common.◌≡◌, proofs.Common.drop, specs.Prelude.find, specs.Str.bytes_eq}
use Rattle.kp_asm.specs.Mnemonics.{spelling}
use Rattle.kp_asm.proofs.mnemonic.mnemonic_among.Given as goal

abbrev pub invariant-loop-mnemonic : goal.invariant-loop-mnemonic
invariant-loop-mnemonic l = find (λ m. bytes_eq l.run (spelling m)) (drop l.mnemonic-index l.mnemonics) ≡ find (λ m. bytes_eq l.run (spelling m)) l.mnemonics
