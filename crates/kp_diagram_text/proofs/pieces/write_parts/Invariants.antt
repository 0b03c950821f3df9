use Rattle.std.{proofs.Common.take, specs.Prelude.flat_map}
use Rattle.kp_diagram_text.specs.{Writing.Wrote, inner.Pieces.piece_text}
use Rattle.kp_diagram_text.proofs.pieces.write_parts.Given as goal

abbrev pub invariant-loop-piece : goal.invariant-loop-piece
invariant-loop-piece g l =
    Wrote (g.K.Sink.held l.initial.sink) (g.K.Sink.faults l.initial.sink) l.initial.writing (g.K.Sink.held l.sink) (g.K.Sink.faults l.sink) l.writing
    (flat_map piece_text (take l.piece-index l.pieces))
