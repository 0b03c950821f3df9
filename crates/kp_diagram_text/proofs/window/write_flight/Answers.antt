use Rattle.std.proofs.{Common.arith, lemmas.List.get_or_default}
use Rattle.kp_sched.proofs.Counting.{seen_length}
use Rattle.kp_diagram_text.{specs.Charts.ext_of, specs.Charts.names_of, specs.Charts.rows_of, specs.Windows.placed_seen, proofs.Steps.carried_line, proofs.Steps.carried_lines}
use Rattle.kp_diagram_text.proofs.InOrder.{each_all, each_more, wrote_as}
use Rattle.kp_diagram_text.proofs.window.write_flight.Goals as goal

pub loop-placed-preserved : goal.loop-placed-preserved
loop-placed-preserved g c =
    let chart = c.args.chart.now in
    each_more (λ p. carried_line chart.stages (ext_of chart) c.args.width (names_of chart) (rows_of chart) (placed_seen p)) c.args.flight.now c.loop-placed.placed-index _
    _ _ _ _ _ _ _ _ _ c.loop-placed-test.true
    (get_or_default c.args.flight.now c.loop-placed.placed-index _ _ c.loop-placed-test.true) c.loop-placed.invariant c.write_line.ensures

pub returns : goal.returns
returns g c =
    let chart = c.args.chart.now in
    wrote_as _ _ _ _ _ _ _ _
    (carried_lines chart.stages (ext_of chart) c.args.width (names_of chart) placed_seen (rows_of chart) c.args.flight.now
    (omega (arith, seen_length chart.stages chart.rows.now, c.requires.some)))
    (each_all (λ p. carried_line chart.stages (ext_of chart) c.args.width (names_of chart) (rows_of chart) (placed_seen p)) c.args.flight.now c.loop-placed.placed-index _ _ _ _ _ _
    c.loop-placed-test.false c.loop-placed.invariant)
