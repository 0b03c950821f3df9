use Rattle.std.proofs.Common.{◌≡◌, ◌∙◌, suc, ◌+◌, ◌-◌, ◌*◌, ◌^◌, ◌<◌, false, get_or, ap, sym, subst, arith}
use Rattle.kp_pipeline.specs.Rows.{one_if}
use Rattle.kp_sched.specs.Rows.{bit_of}
use Rattle.kp_timing.proofs.Bits.{next_bits, one_small, small_next, small_enough}
use Rattle.kp_timing.proofs.masks.mask_of.Goals as goal

pub pushed-mask-requires : goal.pushed-mask-requires
pushed-mask-requires c = let i = c.loop-k.invariant in small_enough c.loop-k.mask (12 - c.loop-k.k) (omega arith) i.small

pub loop-k-preserved : goal.loop-k-preserved
loop-k-preserved c =
    let i = c.loop-k.invariant in
    let k = c.loop-k.k in
    let m = c.loop-k.mask in
    let bits = c.args.bits.now in
    let positive = c.loop-k-test.true in
    let below = i.below in
    let z : k ≡ suc (k - 1) = omega (arith, positive) in
    let w : 12 - (k - 1) ≡ suc (12 - k) = omega (arith, positive, below) in
    let bit = get_or bits (k - 1) false in
    record {
      below = omega (arith, below);
      small = subst (λ n. n < 2 ^ (12 - (k - 1))) (sym c.pushed-mask.ensures) (subst (λ d. 2 * m + one_if bit < 2 ^ d) (sym w) (small_next m (one_if bit) (12 - k) i.small (one_small bit)));
      same = λ j. ap (λ n. bit_of n j) c.pushed-mask.ensures ∙ next_bits bits m (k - 1) (λ x. i.same x ∙ ap (λ n. get_or bits (n + x) false) z) j;
    }
