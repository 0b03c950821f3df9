use Rattle.std.proofs.Common.{◌≡◌, drop}
use Rattle.kp_asm.specs.Mnemonics.{first_breaking}
use Rattle.kp_asm.proofs.operands.first_breaking.Given as goal

abbrev pub invariant-loop-piece : goal.invariant-loop-piece
invariant-loop-piece l = first_breaking l.text l.mnemonic l.rule (drop l.piece-index l.form) l.rest ≡ first_breaking l.text l.mnemonic l.rule l.form l.tokens
