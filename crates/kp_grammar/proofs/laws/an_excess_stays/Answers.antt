use Rattle.kp_grammar.proofs.Derivations.{over_ends}
use Rattle.kp_grammar.proofs.laws.an_excess_stays.Goals as goal

pub returns : goal.returns
returns types c g tables n p over limit v w ts k o d = over_ends g tables n p over limit o d
