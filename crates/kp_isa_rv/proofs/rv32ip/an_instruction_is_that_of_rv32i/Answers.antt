use Rattle.kp_isa_rv.proofs.Predicting.{same_ip}
use Rattle.kp_isa_rv.proofs.rv32ip.an_instruction_is_that_of_rv32i.Goals as goal

pub returns : goal.returns
returns c = same_ip
