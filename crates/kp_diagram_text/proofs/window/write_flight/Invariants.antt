use Rattle.std.proofs.Common.{take}
use Rattle.std.specs.Prelude.{flat_map}
use Rattle.kp_diagram_text.specs.{Charts.ext_of, Charts.names_of, Charts.rows_of, Windows.placed_seen, Writing.Wrote}
use Rattle.kp_diagram_text.proofs.Steps.{carried_line}
use Rattle.kp_diagram_text.proofs.window.write_flight.Given as goal

abbrev pub invariant-loop-placed : goal.invariant-loop-placed
invariant-loop-placed g l =
    Wrote (g.K.Sink.held l.initial.sink) (g.K.Sink.faults l.initial.sink) l.initial.writing (g.K.Sink.held l.sink) (g.K.Sink.faults l.sink) l.writing
    (flat_map (λ p. carried_line l.chart.stages (ext_of l.chart) l.width (names_of l.chart) (rows_of l.chart) (placed_seen p)) (take l.placed-index l.flight))
