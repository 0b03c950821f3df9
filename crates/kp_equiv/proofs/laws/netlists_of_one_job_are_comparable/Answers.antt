use Rattle.kp_equiv.proofs.Jobs.{comparable}
use Rattle.kp_equiv.proofs.laws.netlists_of_one_job_are_comparable.Goals as goal

pub returns : goal.returns
returns c = comparable
