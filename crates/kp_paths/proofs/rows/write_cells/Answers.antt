use Rattle.kp_base.proofs.Writing.{up_next}
use Rattle.kp_paths.proofs.Steps.{cells_next}
use Rattle.kp_paths.proofs.rows.write_cells.Goals as goal

pub loop-j-preserved : goal.loop-j-preserved
loop-j-preserved g c = up_next _ _ _ _ _ _ _ (cells_next c.args.paths.now c.args.read.now c.args.width c.args.k c.args.count c.loop-j.j c.loop-j-test.true) c.loop-j.invariant (rw (c.word.ensures.value, c.cell.ensures) at c.column.ensures)
