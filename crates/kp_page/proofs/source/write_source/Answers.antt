use Rattle.std.proofs.{Common.sym, Common.subst, lemmas.Result.err_from_is_err_and}
use Rattle.kp_base.{specs.Bytes.AppendsPart, proofs.Bytes.part_next, proofs.Pieces.flat_map_split}
use Rattle.kp_page.specs.Page.{escaped}
use Rattle.kp_page.proofs.source.write_source.Goals as goal

pub returns-in_err-write_escaped-clause-text : goal.returns-in_err-write_escaped-clause-text
returns-in_err-write_escaped-clause-text g c =
    let exit = err_from_is_err_and c.from_residual.result c.from_residual.ensures.1 in
    rw exit.1 (subst (AppendsPart _ _) (sym (flat_map_split escaped c.args.source.now c.loop-byte.byte-index _ c.loop-byte-test.true)) (part_next _ _ _ _ _ _ c.loop-byte.invariant.0 c.in_err-write_escaped.ensures.text))
