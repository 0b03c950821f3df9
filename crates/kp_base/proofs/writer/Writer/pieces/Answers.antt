use Rattle.std.proofs.lemmas.List.{get_or_default}
use Rattle.kp_base.{specs.Texts.piece_text, proofs.Writing.each_more}
use Rattle.kp_base.proofs.writer.Writer.pieces.Goals as goal

pub loop-piece-preserved : goal.loop-piece-preserved
loop-piece-preserved g c =
    each_more piece_text c.args.pieces.now c.loop-piece.piece-index _ _ _ _ c.loop-piece-test.true
    (get_or_default c.args.pieces.now c.loop-piece.piece-index _ _ c.loop-piece-test.true) c.loop-piece.invariant c.piece.ensures
