use Rattle.kp_isa_rv.proofs.Running.{next_ip}
use Rattle.kp_isa_rv.proofs.rv32ip.an_instruction_is_by_the_table.Goals as goal

pub returns-clause-next : goal.returns-clause-next
returns-clause-next c = next_ip
