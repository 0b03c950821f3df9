use Rattle.std.proofs.Common.{length}
use Rattle.kp_lex.proofs.Along.{Along}
use Rattle.kp_lex.proofs.lexer.lex.Given as goal

abbrev pub invariant-loop-tokens : goal.invariant-loop-tokens
invariant-loop-tokens l = Along l.text l.tokens.items l.start l.place l.rest

abbrev pub decreases-loop-tokens : goal.decreases-loop-tokens
decreases-loop-tokens l = length l.rest
