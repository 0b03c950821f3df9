use Rattle.std.proofs.{Common.take, Common.drop, Common.arith, Common.sym, lemmas.List.take_rest, lemmas.List.take-append-drop}
use Rattle.std.proofs.{lemmas.Result.err_from_is_err_and, KnownBytes.Appends-kept}
use Rattle.kp_base.proofs.Bytes.{appends_next}
use Rattle.kp_base.proofs.writer.write_all.Goals as goal

pub loop-done-preserved : goal.loop-done-preserved
loop-done-preserved g c =
    let (within, appended, later, unchanged) = c.loop-done.invariant in
    let bytes = simp take_rest at c.in_ok-done.ensures.bytes in
    (omega (arith, c.in_ok-done.ensures.bound), appends_next _ _ _ _ _ _ appended bytes, omega arith, λ none. absurd (omega (arith, c.in_ok-done.ensures.some)))

pub returns-in_err-done-clause-text : goal.returns-in_err-done-clause-text
returns-in_err-done-clause-text g c =
    let exit = err_from_is_err_and c.from_residual.result c.from_residual.ensures.1 in
    let done = c.loop-done.done in
    let piece = c.args.piece.now in
    rw exit.1 (take done piece, drop done piece, sym (take-append-drop done piece), Appends-kept _ _ _ _ c.loop-done.invariant.1 c.in_err-done.ensures.bytes)
