use Rattle.std.proofs.{Common.sym, Common.subst, lemmas.Result.err_from_is_err_and}
use Rattle.kp_base.{specs.Bytes.AppendsPart, proofs.Bytes.part_next, proofs.Pieces.flat_map_split}
use Rattle.kp_report.specs.inner.Pieces.{piece_text}
use Rattle.kp_report.proofs.pieces.put_pieces.Goals as goal

pub returns-in_err-write_piece-clause-text : goal.returns-in_err-write_piece-clause-text
returns-in_err-write_piece-clause-text g c =
    let exit = err_from_is_err_and c.from_residual.result c.from_residual.ensures.1 in
    rw exit.1 (subst (AppendsPart _ _) (sym (flat_map_split piece_text c.args.pieces.now c.loop-piece.piece-index c.piece-item.result c.loop-piece-test.true)) (part_next _ _ _ _ _ _ c.loop-piece.invariant.0 (rw c.piece-item.is at c.in_err-write_piece.ensures.text)))
