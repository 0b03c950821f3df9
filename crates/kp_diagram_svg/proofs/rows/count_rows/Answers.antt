use Rattle.std.proofs.Common.{◌∙◌, List, ap, refl, sym, length, take, arith}
use Rattle.kp_pipeline.specs.Rows.{counts}
use Rattle.kp_diagram.specs.Diagram.{Fetch}
use Rattle.kp_sched.specs.Rows.{rows_seen}
use Rattle.kp_diagram_text.{specs.Charts.ext_of, proofs.Fetches.fetches_end, proofs.Fetches.fetches_step}
use Rattle.kp_diagram_svg.proofs.Steps.{length_next, row_after_few}
use Rattle.kp_diagram_svg.proofs.rows.count_rows.Goals as goal

pub loop-cycle-preserved : goal.loop-cycle-preserved
loop-cycle-preserved c =
    let chart = c.args.chart.now in
    let T = c.loop-cycle.cycle in
    let step = fetches_step chart.stages (ext_of chart) chart.rows.now T _ _ c.loop-cycle-test.true refl c.loop-cycle.enters _ _ c.fetches_next-enters.ensures refl in
    record {
      counted = sym (length_next c.loop-cycle.i _ _ _ c.loop-cycle.enters _ _ step c.row_after-i.ensures) ∙ c.loop-cycle.invariant.counted;
      few = row_after_few c.loop-cycle.i _ T c.loop-cycle.enters c.row_after-i.ensures c.loop-cycle.invariant.few;
    }

pub returns-clause-rows : goal.returns-clause-rows
returns-clause-rows c =
    let chart = c.args.chart.now in
    let T = c.loop-cycle.cycle in
    let count = counts chart.stages (rows_seen chart.stages (take T chart.rows.now)) T in
    let none = ap (λ (fetches : List Fetch). length fetches) (fetches_end chart.stages (ext_of chart) chart.rows.now T count c.loop-cycle.enters (omega arith)) in
    omega (arith, none, c.loop-cycle.invariant.counted)
