use Rattle.std.proofs.Common.{◌≡◌, ◌+◌, length}
use Rattle.kp_asm.specs.Tokens.{tokens_from, tokens_of}
use Rattle.kp_asm.proofs.lexer.tokens_of.Given as goal

abbrev pub invariant-loop-rest : goal.invariant-loop-rest
invariant-loop-rest l = record {
  left : tokens_from l.text l.tokens.items l.start 0 l.rest ≡ tokens_of l.text;
  within : l.start + length l.rest ≡ length l.text;
}

abbrev pub decreases-loop-rest : goal.decreases-loop-rest
decreases-loop-rest l = length l.rest
