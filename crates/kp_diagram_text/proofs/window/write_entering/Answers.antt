use Rattle.std.proofs.Common.{refl, get_or, arith}
use Rattle.kp_diagram_text.{specs.Charts.ext_of, specs.Charts.names_of, proofs.Steps.entering_end, proofs.Steps.entering_next}
use Rattle.kp_diagram_text.proofs.InOrder.{up_next, up_end}
use Rattle.kp_diagram_text.proofs.window.write_entering.Goals as goal

pub loop-cycle-preserved : goal.loop-cycle-preserved
loop-cycle-preserved g c =
    let chart = c.args.chart.now in
    up_next _ _ _ _ _ _ _ _ _ _ _ _ _
    (entering_next chart.stages (ext_of chart) c.args.width (names_of chart) (λ T. get_or c.args.numbers.now T 0) chart.rows.now c.loop-cycle.cycle _ _ c.loop-cycle-test.true refl
    c.loop-cycle.enters _ _ c.fetches_next-enters.ensures refl)
    c.loop-cycle.invariant c.write_fetch.ensures

pub returns : goal.returns
returns g c =
    let chart = c.args.chart.now in
    up_end _ _ _ _ _ _ _ _ (entering_end chart.stages (ext_of chart) c.args.width (names_of chart) (λ T. get_or c.args.numbers.now T 0) chart.rows.now c.loop-cycle.cycle c.loop-cycle.enters (omega arith))
    c.loop-cycle.invariant
