use Rattle.std.proofs.{Common.arith, lemmas.Result.err_from_is_err_and}
use Rattle.kp_base.proofs.Bytes.{written_piece, written_part}
use Rattle.kp_vcd.proofs.Lines.{left_is, signals_next}
use Rattle.kp_vcd.proofs.writer.write_signals.Goals as goal

pub returns-in_err-write_signal-clause-text : goal.returns-in_err-write_signal-clause-text
returns-in_err-write_signal-clause-text g c =
    let next = signals_next c.args.signals.now c.loop-number.number c.index-signals-number.result c.loop-number-test.true c.index-signals-number.is in
    let exit = err_from_is_err_and c.from_residual.result c.from_residual.ensures.1 in
    rw exit.1 (written_part _ _ _ _ _ _ (left_is _ _ _ _ _ next c.loop-number.invariant.text) c.in_err-write_signal.ensures.text)

pub loop-number-preserved : goal.loop-number-preserved
loop-number-preserved g c =
    let next = signals_next c.args.signals.now c.loop-number.number c.index-signals-number.result c.loop-number-test.true c.index-signals-number.is in
    record {
      text = written_piece _ _ _ _ _ _ (left_is _ _ _ _ _ next c.loop-number.invariant.text) c.in_ok-write_signal.ensures.text;
      later = omega arith;
    }
