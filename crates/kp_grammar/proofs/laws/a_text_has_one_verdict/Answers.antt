use Rattle.kp_grammar.proofs.Derivations.{one_wrong, one_over, not_over}
use Rattle.kp_grammar.proofs.laws.a_text_has_one_verdict.Goals as goal

pub returns-clause-wrong : goal.returns-clause-wrong
returns-clause-wrong types c g n v ts k k' a b = one_wrong g n a b

pub returns-clause-over : goal.returns-clause-over
returns-clause-over types c g over n v ts k k' a b = one_over g over n a b

pub returns-clause-apart : goal.returns-clause-apart
returns-clause-apart types c g over n v ts k k' o h within = not_over g over n o h within
