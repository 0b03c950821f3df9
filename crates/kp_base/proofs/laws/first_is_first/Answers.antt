use Rattle.kp_base.proofs.First.{first_behind_none, first_of_none}
use Rattle.kp_base.proofs.laws.first_is_first.Goals as goal

pub returns-clause-found : goal.returns-clause-found
returns-clause-found c = first_behind_none

pub returns-clause-none : goal.returns-clause-none
returns-clause-none c = first_of_none
