use Rattle.kp_cycle.proofs.Running.{row_of_calls}
use Rattle.kp_cycle.proofs.laws.calls_are_the_run.Goals as goal

pub returns-clause-rows : goal.returns-clause-rows
returns-clause-rows c = row_of_calls
