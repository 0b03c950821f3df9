use Rattle.kp_paths.proofs.Shown.{shows_cells}
use Rattle.kp_paths.proofs.laws.the_arrows_are_the_cells.Goals as goal

pub returns : goal.returns
returns c = shows_cells
