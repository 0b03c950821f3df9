use Rattle.kp_diagram.proofs.{Steps.one-reason, Cells.reasons}
use Rattle.kp_diagram.proofs.laws.marks_have_their_reasons.Goals as goal

pub returns-clause-reasons : goal.returns-clause-reasons
returns-clause-reasons c = λ m s hints ins acc. reasons m acc s hints ins

pub returns-clause-one : goal.returns-clause-one
returns-clause-one c = one-reason
