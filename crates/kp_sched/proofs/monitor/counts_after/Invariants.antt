use Rattle.std.proofs.Common.{◌≡◌, ◌<◌, ◌≤◌, ℕ, length, get_or}
use Rattle.kp_sched.specs.inner.Counting.{count_next}
use Rattle.kp_sched.proofs.monitor.counts_after.Given as goal

abbrev pub invariant-loop-k : goal.invariant-loop-k
invariant-loop-k l =
    (length l.after ≡ 12)
    × ((j : ℕ) → j < l.k → get_or l.after j 0 ≡ count_next l.n l.row (λ i. get_or l.counts i 0) j)
    × ((j : ℕ) → l.k ≤ j → get_or l.after j 0 ≡ get_or l.counts j 0)
