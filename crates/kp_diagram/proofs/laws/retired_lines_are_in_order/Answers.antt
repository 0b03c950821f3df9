use Rattle.kp_diagram.specs.Claims.{stalls_of}
use Rattle.kp_diagram.proofs.Retired.{retired-in_order}
use Rattle.kp_diagram.proofs.laws.retired_lines_are_in_order.Goals as goal

pub returns : goal.returns
returns c = λ m s hints ins last acc e. retired-in_order m acc (stalls_of ins) s hints ins last e
