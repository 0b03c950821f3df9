use Rattle.std.proofs.Common.{◌∙◌, ℕ, None, take, get_or, arith}
use Rattle.kp_timing.proofs.Holds.{hold_more}
use Rattle.kp_timing.proofs.lines.put_holds.Goals as goal

pub loop-k-preserved : goal.loop-k-preserved
loop-k-preserved c =
    let kept = c.loop-k.invariant in
    let wrote = c.put_held-end.ensures in
    let text = rw c.from.ensures at wrote.text in
    record {
      room = c.put_held-end.array_long;
      place = omega (arith, kept.place, wrote.place);
      text =
          hold_more (λ (k : ℕ). get_or c.args.hold.now k None) (take c.loop-k.end c.loop-k.out) (take c.put_held-end.result c.put_held-end.new.out)
          c.args.n c.loop-k.k c.loop-k-test.true text
          ∙ kept.text;
    }
