use Rattle.std.proofs.{Common.arith, lemmas.Result.err_from_is_err_and}
use Rattle.kp_base.proofs.Bytes.{written_piece, written_part}
use Rattle.kp_report.proofs.{Lines.left_is, Reported.rows_next}
use Rattle.kp_report.proofs.runs.write_rows.Goals as goal

pub returns-in_err-write_row-clause-text : goal.returns-in_err-write_row-clause-text
returns-in_err-write_row-clause-text g c =
    let exit = err_from_is_err_and c.from_residual.result c.from_residual.ensures.1 in
    rw exit.1 (written_part _ _ _ _ _ _ (left_is _ _ _ _ _ (rows_next c.args.n c.args.rows.now c.loop-cycle.cycle _ c.loop-cycle-test.true) c.loop-cycle.invariant.text) c.in_err-write_row.ensures.text)

pub loop-cycle-preserved : goal.loop-cycle-preserved
loop-cycle-preserved g c = record {
  text = written_piece _ _ _ _ _ _ (left_is _ _ _ _ _ (rows_next c.args.n c.args.rows.now c.loop-cycle.cycle _ c.loop-cycle-test.true) c.loop-cycle.invariant.text) c.in_ok-write_row.ensures.text;
  later = omega arith;
}
