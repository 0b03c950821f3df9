use Rattle.std.proofs.Common.{◌≡◌, ◌<◌, ℕ, length, get_or}
use Rattle.kp_run.specs.Homes.{home_of}
use Rattle.kp_run.proofs.homes.homes_by.Given as goal

abbrev pub invariant-loop-t : goal.invariant-loop-t
invariant-loop-t l = record {
  count : length l.homes.items ≡ l.t;
  homes : (t : ℕ) → t < l.t → get_or l.homes.items t 0 ≡ home_of l.layout t;
}
