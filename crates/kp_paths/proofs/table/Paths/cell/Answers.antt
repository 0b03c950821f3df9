use Rattle.kp_paths.proofs.Ported.{cell_same}
use Rattle.kp_paths.proofs.table.Paths.cell.Goals as goal

pub returns : goal.returns
returns c =
    cell_same _ _ _ _ _ _ _ _ _ _ _ _ c.cell_of.ensures c.target-target.ensures c.port.ensures c.is_some.ensures c.is_set.ensures c.sets.ensures
    c.is_surely_set.ensures c.sets-2.ensures
