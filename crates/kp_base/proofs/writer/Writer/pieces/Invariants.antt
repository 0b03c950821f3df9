use Rattle.std.{proofs.Common.take, specs.Prelude.flat_map}
use Rattle.kp_base.specs.{Texts.piece_text, Writer.Wrote}
use Rattle.kp_base.proofs.writer.Writer.pieces.Given as goal

abbrev pub invariant-loop-piece : goal.invariant-loop-piece
invariant-loop-piece g l = Wrote g.K.Sink.held g.K.Sink.faults l.initial.self l.self (flat_map piece_text (take l.piece-index l.pieces))
