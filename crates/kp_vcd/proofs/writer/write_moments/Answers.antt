use Rattle.std.proofs.{Common.arith, lemmas.Result.err_from_is_err_and}
use Rattle.kp_base.proofs.Bytes.{written_piece, written_part}
use Rattle.kp_vcd.proofs.Lines.{left_is, moments_next}
use Rattle.kp_vcd.proofs.writer.write_moments.Goals as goal

pub returns-in_err-write_moment-clause-text : goal.returns-in_err-write_moment-clause-text
returns-in_err-write_moment-clause-text g c =
    let next = moments_next c.args.moments.now c.loop-moment.moment-index c.moment-item.result c.loop-moment-test.true c.moment-item.is in
    let exit = err_from_is_err_and c.from_residual.result c.from_residual.ensures.1 in
    rw exit.1 (written_part _ _ _ _ _ _ (left_is _ _ _ _ _ next c.loop-moment.invariant.text) c.in_err-write_moment.ensures.text)

pub loop-moment-preserved : goal.loop-moment-preserved
loop-moment-preserved g c =
    let next = moments_next c.args.moments.now c.loop-moment.moment-index c.moment-item.result c.loop-moment-test.true c.moment-item.is in
    record {
      text = written_piece _ _ _ _ _ _ (left_is _ _ _ _ _ next c.loop-moment.invariant.text) c.in_ok-write_moment.ensures.text;
      later = omega arith;
    }
