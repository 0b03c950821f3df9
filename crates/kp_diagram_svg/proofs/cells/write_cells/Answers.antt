use Rattle.std.proofs.Common.{refl, arith}
use Rattle.kp_base.proofs.Writing.{up_next, up_end}
use Rattle.kp_diagram_text.specs.Charts.{ext_of, names_of}
use Rattle.kp_diagram_svg.proofs.Steps.{cells_end, cells_gone, cells_next}
use Rattle.kp_diagram_svg.proofs.cells.write_cells.Goals as goal

pub returns-in-None : goal.returns-in-None
returns-in-None g c =
    let chart = c.args.chart.now in
    up_end _ _ _ _ (cells_gone chart.stages (ext_of chart) chart.rows.now c.loop-cycle.cycle c.args.half (names_of chart) c.args.number c.loop-cycle.place c.in-None.is) c.loop-cycle.invariant.text

pub loop-cycle-preserved : goal.loop-cycle-preserved
loop-cycle-preserved g c =
    let chart = c.args.chart.now in
    record {
      text = up_next _ _ _ _ _ _ _
          (cells_next chart.stages (ext_of chart) chart.rows.now c.loop-cycle.cycle _ _ c.loop-cycle-test.true refl c.args.half (names_of chart) c.args.number _ _ c.loop-cycle.place _ c.in-Some.is c.mark_of-mark.ensures c.next_place-place.ensures.place)
          c.loop-cycle.invariant.text c.write_cell.ensures;
      within = c.next_place-place.ensures.within;
    }

pub returns : goal.returns
returns g c =
    let chart = c.args.chart.now in
    up_end _ _ _ _ (cells_end chart.stages (ext_of chart) chart.rows.now c.loop-cycle.cycle c.args.half (names_of chart) c.args.number c.loop-cycle.place (omega arith)) c.loop-cycle.invariant.text
