use Rattle.kp_grammar.proofs.Derivations.{sentence}
use Rattle.kp_grammar.proofs.laws.what_is_accepted_is_a_sentence.Goals as goal

pub returns : goal.returns
returns types c g tables n p over v w ts l = sentence g tables n p l
