use Rattle.kp_frontend.proofs.Verdicts.{some_head, one_head}
use Rattle.kp_frontend.proofs.laws.a_head_has_one_verdict.Goals as goal

pub returns-clause-some : goal.returns-clause-some
returns-clause-some c = some_head

pub returns-clause-one : goal.returns-clause-one
returns-clause-one c = one_head
