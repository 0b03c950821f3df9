use Rattle.std.proofs.{Common.arith, lemmas.Result.err_from_is_err_and}
use Rattle.kp_base.proofs.Bytes.{written_piece, written_part}
use Rattle.kp_run.specs.Boards.{due_behind}
use Rattle.kp_report.{specs.inner.Boards.behind, proofs.Lines.left_is, proofs.Lines.state_next, proofs.Lines.past, proofs.Lines.at_most_one}
use Rattle.kp_report.proofs.runs.write_values.Goals as goal

pub returns-in_err-write_value-clause-text : goal.returns-in_err-write_value-clause-text
returns-in_err-write_value-clause-text g c =
    let job = c.args.board.now.design.now.job in
    let rows = c.args.board.now.cycles.rows.items in
    let next = state_next c.args.decls.now c.loop-decl.decl-index c.decl-item.result c.loop-decl-test.true c.decl-item.is c.loop-decl.t (behind job rows) (due_behind job rows) in
    let exit = err_from_is_err_and c.from_residual.result c.from_residual.ensures.1 in
    rw exit.1 (written_part _ _ _ _ _ _ (left_is _ _ _ _ _ next c.loop-decl.invariant.text) c.in_err-write_value.ensures.text)

pub loop-decl-preserved : goal.loop-decl-preserved
loop-decl-preserved g c =
    let job = c.args.board.now.design.now.job in
    let rows = c.args.board.now.cycles.rows.items in
    let next = state_next c.args.decls.now c.loop-decl.decl-index c.decl-item.result c.loop-decl-test.true c.decl-item.is c.loop-decl.t (behind job rows) (due_behind job rows) in
    let counted = past c.args.decls.now c.loop-decl.decl-index c.decl-item.result c.loop-decl-test.true c.decl-item.is c.loop-decl.t c.loop-decl.invariant.counted in
    let one = at_most_one c.decl-item.result in
    rw c.targets_in-t.ensures (record {
      text = written_piece _ _ _ _ _ _ (left_is _ _ _ _ _ next c.loop-decl.invariant.text) c.in_ok-write_value.ensures.text;
      later = omega arith;
      counted = counted;
      few = omega arith;
    })
