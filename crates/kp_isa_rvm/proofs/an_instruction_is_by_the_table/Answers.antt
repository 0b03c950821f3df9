use Rattle.kp_isa_rvm.proofs.Running.{step, next}
use Rattle.kp_isa_rvm.proofs.an_instruction_is_by_the_table.Goals as goal

pub returns-clause-step : goal.returns-clause-step
returns-clause-step c = step

pub returns-clause-next : goal.returns-clause-next
returns-clause-next c = next
