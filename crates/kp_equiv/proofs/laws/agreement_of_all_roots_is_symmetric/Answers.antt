use Rattle.kp_equiv.proofs.Symmetry.{agrees_with_itself, agree_turned}
use Rattle.kp_equiv.proofs.laws.agreement_of_all_roots_is_symmetric.Goals as goal

pub returns-clause-itself : goal.returns-clause-itself
returns-clause-itself c = agrees_with_itself

pub returns-clause-turned : goal.returns-clause-turned
returns-clause-turned c = agree_turned
