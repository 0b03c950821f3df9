use Rattle.kp_width.proofs.Found.{sound}
use Rattle.kp_width.proofs.laws.an_expression_has_its_width.Goals as goal

pub returns : goal.returns
returns c ds done s env e suits unbroken = sound ds done s env suits e unbroken
