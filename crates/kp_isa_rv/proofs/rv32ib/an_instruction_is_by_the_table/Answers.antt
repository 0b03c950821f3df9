use Rattle.kp_isa_rv.proofs.Running.{next_ib}
use Rattle.kp_isa_rv.proofs.rv32ib.an_instruction_is_by_the_table.Goals as goal

pub returns-clause-next : goal.returns-clause-next
returns-clause-next c = next_ib
