use Rattle.std.proofs.Common.{◌≡◌, ℕ, ◌-◌, ◌<◌, ◌≤◌, length, get_or}
use Rattle.kp_sites.specs.Reports.{nothing_recorded}
use Rattle.kp_timing.proofs.timeline.flights.Given as goal

abbrev pub invariant-loop-alloc : goal.invariant-loop-alloc
invariant-loop-alloc l = record {
  few : length l.flights.items ≤ l.stages;
  reads : (k : ℕ) → k < length l.flights.items → length (get_or l.flights.items k nothing_recorded).reads ≡ l.reads;
  writes : (k : ℕ) → k < length l.flights.items → length (get_or l.flights.items k nothing_recorded).writes ≡ l.results;
  settings : (k : ℕ) → k < length l.flights.items → length (get_or l.flights.items k nothing_recorded).settings ≡ l.results;
}

abbrev pub decreases-loop-alloc : goal.decreases-loop-alloc
decreases-loop-alloc l = l.stages - length l.flights.items
