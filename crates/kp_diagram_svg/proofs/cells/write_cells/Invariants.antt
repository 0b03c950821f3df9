use Rattle.std.{proofs.Common.◌<◌, proofs.Common.drop, specs.Prelude.IfSome, specs.Prelude.Some}
use Rattle.kp_base.specs.inner.Writing.{WroteUpTo}
use Rattle.kp_diagram_text.specs.{Charts.ext_of, Charts.names_of}
use Rattle.kp_sched.specs.Rows.{rows_seen}
use Rattle.kp_diagram.specs.Diagram.{cells_from}
use Rattle.kp_diagram_svg.specs.Picture.{cells_text}
use Rattle.kp_diagram_svg.proofs.cells.write_cells.Given as goal

abbrev pub invariant-loop-cycle : goal.invariant-loop-cycle
invariant-loop-cycle g l = record {
  text : WroteUpTo g.K.Sink.held g.K.Sink.faults
      (cells_text l.half (names_of l.chart) l.number (cells_from l.chart.stages (ext_of l.chart) l.entered (rows_seen l.chart.stages (drop l.entered l.chart.rows.now)) (Some 0)))
      (cells_text l.half (names_of l.chart) l.number (cells_from l.chart.stages (ext_of l.chart) l.cycle (rows_seen l.chart.stages (drop l.cycle l.chart.rows.now)) l.place))
      l.initial.out l.out;
  within : IfSome l.place (λ k. k < l.chart.stages);
}
