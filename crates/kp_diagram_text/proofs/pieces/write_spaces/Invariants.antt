use Rattle.kp_diagram_text.specs.{Text.spaces, inner.Writing.WroteUpTo}
use Rattle.kp_diagram_text.proofs.pieces.write_spaces.Given as goal

abbrev pub invariant-loop-left : goal.invariant-loop-left
invariant-loop-left g l =
    WroteUpTo (spaces l.count) (spaces l.left) (g.K.Sink.held l.initial.sink) (g.K.Sink.faults l.initial.sink) l.initial.writing (g.K.Sink.held l.sink) (g.K.Sink.faults l.sink) l.writing

abbrev pub decreases-loop-left : goal.decreases-loop-left
decreases-loop-left g l = l.left
