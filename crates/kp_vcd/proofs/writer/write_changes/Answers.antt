use Rattle.std.proofs.{Common.arith, lemmas.Result.err_from_is_err_and}
use Rattle.kp_base.proofs.Bytes.{written_piece, written_part}
use Rattle.kp_vcd.proofs.Lines.{left_is, changes_next}
use Rattle.kp_vcd.proofs.writer.write_changes.Goals as goal

pub returns-in_err-write_change-clause-text : goal.returns-in_err-write_change-clause-text
returns-in_err-write_change-clause-text g c =
    let next = changes_next c.args.changes.now c.loop-change.change-index c.change-item.result c.loop-change-test.true c.change-item.is in
    let exit = err_from_is_err_and c.from_residual.result c.from_residual.ensures.1 in
    rw exit.1 (written_part _ _ _ _ _ _ (left_is _ _ _ _ _ next c.loop-change.invariant.text) c.in_err-write_change.ensures.text)

pub loop-change-preserved : goal.loop-change-preserved
loop-change-preserved g c =
    let next = changes_next c.args.changes.now c.loop-change.change-index c.change-item.result c.loop-change-test.true c.change-item.is in
    record {
      text = written_piece _ _ _ _ _ _ (left_is _ _ _ _ _ next c.loop-change.invariant.text) c.in_ok-write_change.ensures.text;
      later = omega arith;
    }
