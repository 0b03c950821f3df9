use Rattle.kp_equiv.proofs.Deciding.{some_verdict, one_verdict}
use Rattle.kp_equiv.proofs.laws.two_netlists_have_one_verdict.Goals as goal

pub returns-clause-some : goal.returns-clause-some
returns-clause-some c = some_verdict

pub returns-clause-one : goal.returns-clause-one
returns-clause-one c = one_verdict
