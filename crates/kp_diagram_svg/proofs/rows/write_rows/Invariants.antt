use Rattle.std.proofs.Common.{◌≡◌, ◌≤◌, drop, take}
use Rattle.kp_base.specs.inner.Writing.{WroteUpTo}
use Rattle.kp_diagram_text.specs.{Charts.ext_of, Charts.names_of, Charts.rows_of}
use Rattle.kp_pipeline.specs.Rows.{counts}
use Rattle.kp_diagram.specs.Diagram.{diagram, fetches_from}
use Rattle.kp_sched.specs.{Monitors.HasSeen, Rows.rows_seen}
use Rattle.kp_diagram_svg.specs.Picture.{rows_text}
use Rattle.kp_diagram_svg.proofs.rows.write_rows.Given as goal

abbrev pub invariant-loop-cycle : goal.invariant-loop-cycle
invariant-loop-cycle g l = record {
  text : WroteUpTo g.K.Sink.held g.K.Sink.faults
      (rows_text l.half (names_of l.chart) 0 (diagram l.chart.stages (ext_of l.chart) (rows_of l.chart)))
      (rows_text l.half (names_of l.chart) l.i (fetches_from l.chart.stages (ext_of l.chart) l.cycle
      (counts l.chart.stages (rows_seen l.chart.stages (take l.cycle l.chart.rows.now)) l.cycle) l.enters (rows_seen l.chart.stages (drop l.cycle l.chart.rows.now))))
      l.initial.out l.out;
  few : l.i ≤ l.cycle;
  stages : l.monitor.stages ≡ l.chart.stages;
  seen : HasSeen l.monitor (take l.cycle l.chart.rows.now);
}
