use Rattle.kp_diagram.specs.Diagram.{Filling}
use Rattle.kp_diagram.proofs.Causes.{causes, counted}
use Rattle.kp_diagram.proofs.laws.lost_cycles_have_their_causes.Goals as goal

pub returns-clause-causes : goal.returns-clause-causes
returns-clause-causes c = λ m s hints ins last T acc e b. causes m acc s hints ins last T e b

pub returns-clause-counted : goal.returns-clause-counted
returns-clause-counted c = λ last ext rows. counted last ext 0 (λ k. Filling) rows
