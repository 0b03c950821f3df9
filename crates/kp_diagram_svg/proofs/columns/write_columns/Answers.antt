use Rattle.std.proofs.Common.{refl, arith}
use Rattle.kp_base.proofs.Writing.{up_next, up_end}
use Rattle.kp_diagram_svg.proofs.Steps.{columns_end, columns_next}
use Rattle.kp_diagram_svg.proofs.columns.write_columns.Goals as goal

pub loop-cycle-preserved : goal.loop-cycle-preserved
loop-cycle-preserved g c =
    let chart = c.args.chart.now in
    up_next _ _ _ _ _ _ _ (columns_next chart.stages c.args.half chart.rows.now c.loop-cycle.cycle _ _ _ c.loop-cycle-test.true refl c.is_wrong-wrong.ensures)
    c.loop-cycle.invariant c.write_column_text.ensures

pub returns : goal.returns
returns g c =
    let chart = c.args.chart.now in
    up_end _ _ _ _ (columns_end chart.stages c.args.half chart.rows.now c.loop-cycle.cycle (omega arith)) c.loop-cycle.invariant
