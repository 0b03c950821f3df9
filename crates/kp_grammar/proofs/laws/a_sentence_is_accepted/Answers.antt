use Rattle.kp_grammar.proofs.Derivations.{is_accepted}
use Rattle.kp_grammar.proofs.laws.a_sentence_is_accepted.Goals as goal

pub returns : goal.returns
returns types c g tables n p over limit v w ts d z = is_accepted g tables n p over limit d z
