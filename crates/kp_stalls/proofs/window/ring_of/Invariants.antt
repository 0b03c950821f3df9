use Rattle.std.proofs.Common.{ℕ, ◌-◌, ◌<◌, ◌≤◌, length, get_or}
use Rattle.kp_stalls.specs.{Occupants.nothing, Windows.HasRoom}
use Rattle.kp_stalls.proofs.window.ring_of.Given as goal

abbrev pub invariant-loop-alloc : goal.invariant-loop-alloc
invariant-loop-alloc l = record {
  few : length l.ring.items ≤ 16;
  room : (j : ℕ) → j < length l.ring.items → HasRoom l.d.job (get_or l.ring.items j nothing);
}

abbrev pub decreases-loop-alloc : goal.decreases-loop-alloc
decreases-loop-alloc l = 16 - length l.ring.items
