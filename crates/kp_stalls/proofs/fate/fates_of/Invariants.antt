use Rattle.std.proofs.Common.{◌≡◌, ℕ, ◌<◌, ◌≤◌, [], length, get_or, drop}
use Rattle.kp_sched.specs.Rows.{rows_seen}
use Rattle.kp_stalls.specs.{declared.fate.Fate.TheVariants.Open, Cycles.fate_in}
use Rattle.kp_stalls.proofs.fate.fates_of.Given as goal

abbrev pub invariant-loop-cycle : goal.invariant-loop-cycle
invariant-loop-cycle l = record {
  count : length l.fates.items ≡ length l.rows;
  within : l.cycle ≤ length l.rows;
  last : length l.after ≡ 12;
  next : (k : ℕ) → k < l.n → get_or l.after k Open ≡ fate_in l.n (rows_seen l.n (drop l.cycle l.rows)) k;
  fates : (T k : ℕ) → l.cycle ≤ T → T < length l.rows → k < l.n → get_or (get_or l.fates.items T []) k Open ≡ fate_in l.n (rows_seen l.n (drop T l.rows)) k;
}

abbrev pub decreases-loop-cycle : goal.decreases-loop-cycle
decreases-loop-cycle l = l.cycle
