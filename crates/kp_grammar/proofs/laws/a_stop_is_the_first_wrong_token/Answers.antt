use Rattle.kp_grammar.proofs.Derivations.{wrong_at, within_stop}
use Rattle.kp_grammar.proofs.laws.a_stop_is_the_first_wrong_token.Goals as goal

pub returns : goal.returns
returns types c g tables n p over limit v ts k z l = (wrong_at g tables n p l, within_stop g tables n p over limit z l)
