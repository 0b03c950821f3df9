use Rattle.kp_equiv.proofs.Anew.{first_begins, second_begins}
use Rattle.kp_equiv.proofs.laws.netlists_whose_roots_agree_begin_anew_alike.Goals as goal

pub returns-clause-second : goal.returns-clause-second
returns-clause-second c = second_begins

pub returns-clause-first : goal.returns-clause-first
returns-clause-first c = first_begins
