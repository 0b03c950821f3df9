use Rattle.kp_grammar.proofs.Derivations.{over_at}
use Rattle.kp_grammar.proofs.laws.an_excess_is_the_first.Goals as goal

pub returns : goal.returns
returns types c g tables n p over limit v ts k z l = over_at g tables n p over limit z l
