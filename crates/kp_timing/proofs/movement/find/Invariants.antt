use Rattle.std.proofs.Common.{◌≡◌, ◌≤◌, length}
use Rattle.kp_timing.specs.inner.Deciding.{found_down, no_stage_found}
use Rattle.kp_timing.proofs.movement.find.Given as goal

abbrev pub invariant-loop-k : goal.invariant-loop-k
invariant-loop-k l = record {
  below : l.k ≤ l.sites.stages;
  waits : length l.waits_in ≡ 12;
  blocked : length l.blocked ≡ 13;
  found : found_down l.sites l.held l.ext l.k (record { waits = l.waits_in; blocked = l.blocked }) ≡ found_down l.sites l.held l.ext l.sites.stages no_stage_found;
}

abbrev pub decreases-loop-k : goal.decreases-loop-k
decreases-loop-k l = l.k
