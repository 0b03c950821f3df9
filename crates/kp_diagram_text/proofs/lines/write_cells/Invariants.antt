use Rattle.std.{proofs.Common.◌<◌, proofs.Common.drop, specs.Prelude.IfSome, specs.Prelude.Some}
use Rattle.kp_sched.specs.Rows.{rows_seen}
use Rattle.kp_diagram.specs.Diagram.{cells_from}
use Rattle.kp_diagram_text.specs.{Charts.ext_of, Charts.names_of, Text.cells_text, inner.Writing.WroteUpTo}
use Rattle.kp_diagram_text.proofs.lines.write_cells.Given as goal

abbrev pub invariant-loop-cycle : goal.invariant-loop-cycle
invariant-loop-cycle g l = record {
  text : WroteUpTo
      (cells_text l.width (names_of l.chart) (cells_from l.chart.stages (ext_of l.chart) l.entered (rows_seen l.chart.stages (drop l.entered l.chart.rows.now)) (Some l.stage)))
      (cells_text l.width (names_of l.chart) (cells_from l.chart.stages (ext_of l.chart) l.cycle (rows_seen l.chart.stages (drop l.cycle l.chart.rows.now)) l.place))
      (g.K.Sink.held l.initial.sink) (g.K.Sink.faults l.initial.sink) l.initial.writing (g.K.Sink.held l.sink) (g.K.Sink.faults l.sink) l.writing;
  within : IfSome l.place (λ k. k < l.chart.stages);
}
