use Rattle.kp_stage.proofs.Bounds.{machine_within, expression_within}
use Rattle.kp_stage.proofs.laws.sizes_bound_the_work.Goals as goal

pub returns-clause-machine : goal.returns-clause-machine
returns-clause-machine c = machine_within

pub returns-clause-expression : goal.returns-clause-expression
returns-clause-expression c = expression_within
