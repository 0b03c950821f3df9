use Rattle.std.proofs.Common.{[], drop, map}
use Rattle.kp_vread_parse.specs.inner.{Reading.TurnsYet, Words.symbol}
use Rattle.kp_vread_parse.proofs.tokens.Tokens.skip.Given as goal

abbrev pub invariant-loop-fixed : goal.invariant-loop-fixed
invariant-loop-fixed l = TurnsYet l.self (map symbol l.given) (map symbol (drop l.fixed-index l.given)) [] [] l.at l.here
