use Rattle.std.proofs.{Common.sym, Common.subst, lemmas.Result.err_from_is_err_and}
use Rattle.kp_base.{specs.Bytes.AppendsPart, proofs.Bytes.part_next, proofs.Pieces.flat_map_split}
use Rattle.kp_base.proofs.writer.write_pieces.Goals as goal

pub returns-in_err-write_all-clause-text : goal.returns-in_err-write_all-clause-text
returns-in_err-write_all-clause-text g c =
    let exit = err_from_is_err_and c.from_residual.result c.from_residual.ensures.1 in
    rw exit.1 (subst (AppendsPart _ _) (sym (flat_map_split (λ piece. piece.now) c.args.pieces.now c.loop-piece.piece-index _ c.loop-piece-test.true)) (part_next _ _ _ _ _ _ c.loop-piece.invariant.0 c.in_err-write_all.ensures.text))
