use Rattle.std.{proofs.Common.◌≤◌, proofs.Common.take, specs.Prelude.flat_map, specs.Io.KnownBytes.Appends}
use Rattle.kp_report.specs.inner.Pieces.{piece_text}
use Rattle.kp_report.proofs.pieces.put_pieces.Given as goal

abbrev pub invariant-loop-piece : goal.invariant-loop-piece
invariant-loop-piece g l =
    Appends (g.K.Sink.held l.initial.sink) (g.K.Sink.held l.sink) (flat_map piece_text (take l.piece-index l.pieces))
    × (g.K.Sink.faults l.initial.sink ≤ g.K.Sink.faults l.sink)
