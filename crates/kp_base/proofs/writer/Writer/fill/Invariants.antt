use Rattle.std.{proofs.Common.◌≤◌, proofs.Common.length, proofs.Common.drop, specs.Prelude.map}
use Rattle.kp_base.specs.{Texts.filled, Texts.piece_text, inner.Writing.WroteUpTo}
use Rattle.kp_base.proofs.writer.Writer.fill.Given as goal

abbrev pub invariant-loop-piece : goal.invariant-loop-piece
invariant-loop-piece g l = record {
  text : WroteUpTo g.K.Sink.held g.K.Sink.faults (filled l.text (map piece_text l.pieces)) (filled (drop l.at l.text) (map piece_text (drop l.piece-index l.pieces))) l.initial.self l.self;
  within : l.at ≤ length l.text;
}
