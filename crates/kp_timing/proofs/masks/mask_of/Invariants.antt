use Rattle.std.proofs.Common.{◌≡◌, ℕ, ◌+◌, ◌-◌, ◌^◌, ◌<◌, ◌≤◌, false, get_or}
use Rattle.kp_sched.specs.Rows.{bit_of}
use Rattle.kp_timing.proofs.masks.mask_of.Given as goal

abbrev pub invariant-loop-k : goal.invariant-loop-k
invariant-loop-k l = record {
  below : l.k ≤ 12;
  small : l.mask < 2 ^ (12 - l.k);
  same : (j : ℕ) → bit_of l.mask j ≡ get_or l.bits (l.k + j) false;
}

abbrev pub decreases-loop-k : goal.decreases-loop-k
decreases-loop-k l = l.k
