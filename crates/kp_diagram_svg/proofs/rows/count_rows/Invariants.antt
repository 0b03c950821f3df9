use Rattle.std.proofs.Common.{◌≡◌, ◌+◌, ◌≤◌, length, drop, take}
use Rattle.kp_pipeline.specs.Rows.{counts}
use Rattle.kp_diagram.specs.Diagram.{diagram, fetches_from}
use Rattle.kp_sched.specs.Rows.{rows_seen}
use Rattle.kp_diagram_text.specs.Charts.{ext_of, rows_of}
use Rattle.kp_diagram_svg.proofs.rows.count_rows.Given as goal

abbrev pub invariant-loop-cycle : goal.invariant-loop-cycle
invariant-loop-cycle l = record {
  counted : l.i + length (fetches_from l.chart.stages (ext_of l.chart) l.cycle
      (counts l.chart.stages (rows_seen l.chart.stages (take l.cycle l.chart.rows.now)) l.cycle) l.enters (rows_seen l.chart.stages (drop l.cycle l.chart.rows.now)))
      ≡ length (diagram l.chart.stages (ext_of l.chart) (rows_of l.chart));
  few : l.i ≤ l.cycle;
}
