use Rattle.std.{proofs.Common.take, specs.Prelude.flat_map}
use Rattle.kp_diagram_text.specs.{Writing.Wrote, inner.Lines.line_of}
use Rattle.kp_diagram_text.proofs.labelled.write_labelled_lines.Given as goal

abbrev pub invariant-loop-line : goal.invariant-loop-line
invariant-loop-line g l =
    Wrote (g.K.Sink.held l.initial.sink) (g.K.Sink.faults l.initial.sink) l.initial.writing (g.K.Sink.held l.sink) (g.K.Sink.faults l.sink) l.writing
    (flat_map (line_of l.chart l.width) (take l.line-index l.lines))
