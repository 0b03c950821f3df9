use Rattle.kp_diagram.specs.Diagram.{Filling}
use Rattle.kp_diagram.proofs.Adding.{adds-up, retired-passed}
use Rattle.kp_diagram.proofs.laws.the_account_adds_up.Goals as goal

pub returns-clause-total : goal.returns-clause-total
returns-clause-total c = λ last ext rows. adds-up last ext 0 (λ k. Filling) rows

pub returns-clause-retired : goal.returns-clause-retired
returns-clause-retired c = λ last ext rows. retired-passed last ext 0 (λ k. Filling) rows
