use Rattle.std.proofs.Common.{◌≡◌, ℕ, ◌<◌, None, length, get_or}
use Rattle.kp_timing.specs.Timed.{hold_of}
use Rattle.kp_timing.proofs.timing_text.held.Given as goal

abbrev pub invariant-loop-k : goal.invariant-loop-k
invariant-loop-k l = record {
  room : length l.hold ≡ 12;
  same : (j : ℕ) → j < l.k → get_or l.hold j None ≡ hold_of l.timeline j;
}
