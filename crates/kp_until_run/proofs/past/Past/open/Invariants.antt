use Rattle.std.proofs.Common.{◌≡◌, ◌<◌, ℕ, length, get_or}
use Rattle.kp_until_run.specs.inner.Pasts.{IsHistory}
use Rattle.kp_until_run.specs.declared.history.History.{History}
use Rattle.kp_until_run.proofs.past.Past.open.Given as goal

abbrev pub invariant-loop-t : goal.invariant-loop-t
invariant-loop-t l = record {
  count : length l.histories.items ≡ l.t;
  each : (u : ℕ) (d : History) → u < l.t → IsHistory l.job.design.job l._limit 0 u (get_or l.histories.items u d);
}
