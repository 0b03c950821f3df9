use Rattle.std.proofs.Common.{◌∙◌, length-set, arith}
use Rattle.kp_sched.proofs.Digits.{digit_more}
use Rattle.kp_sched.proofs.lines.put_digits.Goals as goal

pub loop-k-preserved : goal.loop-k-preserved
loop-k-preserved c =
    let kept = c.loop-k.invariant in
    rw (c.digit.ensures, c.is_set.ensures) (
      simp length-set kept.0,
      omega arith,
      digit_more c.loop-k.out c.loop-k.end c.args.word c.args.n c.loop-k.k (omega arith) c.loop-k-test.true ∙ kept.2,
    )
