use Rattle.std.proofs.Common.{false, get_or, drop}
use Rattle.kp_diagram.specs.Flights.{entering}
use Rattle.kp_sched.specs.Rows.{rows_seen}
use Rattle.kp_diagram_text.specs.{Charts.ext_of, Charts.names_of, Charts.rows_of, Text.lines_text, inner.Writing.WroteUpTo}
use Rattle.kp_diagram_text.proofs.window.write_entering.Given as goal

abbrev pub invariant-loop-cycle : goal.invariant-loop-cycle
invariant-loop-cycle g l =
    WroteUpTo
    (lines_text l.width (names_of l.chart) (entering l.chart.stages (ext_of l.chart) 0 (λ T. get_or l.numbers T 0) false (rows_of l.chart)))
    (lines_text l.width (names_of l.chart) (entering l.chart.stages (ext_of l.chart) l.cycle (λ T. get_or l.numbers T 0) l.enters (rows_seen l.chart.stages (drop l.cycle l.chart.rows.now))))
    (g.K.Sink.held l.initial.sink) (g.K.Sink.faults l.initial.sink) l.initial.writing (g.K.Sink.held l.sink) (g.K.Sink.faults l.sink) l.writing
