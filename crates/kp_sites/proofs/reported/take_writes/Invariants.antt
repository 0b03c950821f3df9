use Rattle.std.proofs.Common.{◌≡◌, ℕ, ◌<◌, None, length, get_or}
use Rattle.kp_sites.proofs.reported.take_writes.Given as goal

abbrev pub invariant-loop-i : goal.invariant-loop-i
invariant-loop-i l = record {
  count : length l.writes ≡ length l.initial.writes;
  taken : (k : ℕ) → k < l.i → get_or l.writes k None ≡ get_or l.machine.last.writes k None;
}
