use Rattle.std.proofs.Common.{◌≡◌, ◌<◌, ℕ, length, get_or}
use Rattle.kp_watch.specs.inner.Results.{result_in}
use Rattle.kp_watch.proofs.results.results_of.Given as goal

abbrev pub invariant-loop-t : goal.invariant-loop-t
invariant-loop-t l = (length l.numbers.items ≡ l.t) × ((t : ℕ) → t < l.t → get_or l.numbers.items t 0 ≡ result_in l.job.design.job t)
