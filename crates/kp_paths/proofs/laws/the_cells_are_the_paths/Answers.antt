use Rattle.kp_paths.proofs.CellLaws.{are_paths}
use Rattle.kp_paths.proofs.laws.the_cells_are_the_paths.Goals as goal

pub returns : goal.returns
returns c = are_paths
