use Rattle.std.proofs.Common.{◌∙◌, length-set, arith}
use Rattle.kp_sched.proofs.Digits.{digit_more}
use Rattle.kp_timing.proofs.lines.put_digits.Goals as goal

pub loop-k-preserved : goal.loop-k-preserved
loop-k-preserved c =
    let kept = c.loop-k.invariant in
    rw (c.digit.ensures, c.is_set.ensures, c.from.ensures) (record {
      room = simp length-set kept.room;
      place = omega arith;
      text = digit_more c.loop-k.out c.loop-k.end c.args.word c.args.n c.loop-k.k (omega arith) c.loop-k-test.true ∙ kept.text;
    })
