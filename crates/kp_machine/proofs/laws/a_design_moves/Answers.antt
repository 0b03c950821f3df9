use Rattle.kp_pipeline.proofs.Progress.{moves}
use Rattle.kp_machine.specs.Machine.{machine_of}
use Rattle.kp_machine.proofs.laws.a_design_moves.Goals as goal

pub returns : goal.returns
returns c s hints ins = moves (machine_of c.args.design.now.job) s hints ins c.a_design_is_accepted.ensures
