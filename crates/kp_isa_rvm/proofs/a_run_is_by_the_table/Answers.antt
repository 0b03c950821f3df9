use Rattle.kp_isa_rvm.proofs.Running.{runs}
use Rattle.kp_isa_rvm.proofs.a_run_is_by_the_table.Goals as goal

pub returns : goal.returns
returns c = runs
