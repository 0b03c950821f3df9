use Rattle.std.proofs.lemmas.List.{get_or_default}
use Rattle.kp_diagram_text.{specs.inner.Pieces.piece_text, proofs.InOrder.each_more}
use Rattle.kp_diagram_text.proofs.pieces.write_parts.Goals as goal

pub loop-piece-preserved : goal.loop-piece-preserved
loop-piece-preserved g c =
    each_more piece_text c.args.pieces.now c.loop-piece.piece-index _ _ _ _ _ _ _ _ _ _ c.loop-piece-test.true
    (get_or_default c.args.pieces.now c.loop-piece.piece-index _ _ c.loop-piece-test.true) c.loop-piece.invariant c.write_piece.ensures
