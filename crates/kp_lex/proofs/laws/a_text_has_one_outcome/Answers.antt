use Rattle.kp_lex.proofs.Outcome.{some_outcome, one_outcome}
use Rattle.kp_lex.proofs.laws.a_text_has_one_outcome.Goals as goal

pub returns-clause-some : goal.returns-clause-some
returns-clause-some c = some_outcome

pub returns-clause-one : goal.returns-clause-one
returns-clause-one c text a b = one_outcome
