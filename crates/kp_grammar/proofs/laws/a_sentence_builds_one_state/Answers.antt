use Rattle.kp_grammar.proofs.Derivations.{one_state}
use Rattle.kp_grammar.proofs.laws.a_sentence_builds_one_state.Goals as goal

pub returns : goal.returns
returns types c g tables n p v w w' ts d d' = one_state g tables n p d d'
