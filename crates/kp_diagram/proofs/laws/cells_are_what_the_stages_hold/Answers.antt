use Rattle.kp_diagram.proofs.Cells.{holds-shown, shown-holds}
use Rattle.kp_diagram.proofs.laws.cells_are_what_the_stages_hold.Goals as goal

pub returns-clause-shown : goal.returns-clause-shown
returns-clause-shown c = λ m s hints ins acc. shown-holds m acc s hints ins

pub returns-clause-all : goal.returns-clause-all
returns-clause-all c = λ m s hints ins acc. holds-shown m acc s hints ins
