use Rattle.kp_equiv.proofs.Running.{theorem}
use Rattle.kp_equiv.proofs.laws.netlists_whose_roots_agree_run_alike.Goals as goal

pub returns : goal.returns
returns c = theorem
