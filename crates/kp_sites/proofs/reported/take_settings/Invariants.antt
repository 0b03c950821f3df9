use Rattle.std.proofs.Common.{◌≡◌, ℕ, ◌<◌, length, get_or}
use Rattle.kp_sites.proofs.reported.take_settings.Given as goal

abbrev pub invariant-loop-i : goal.invariant-loop-i
invariant-loop-i l = record {
  count : length l.settings ≡ length l.initial.settings;
  taken : (k : ℕ) → k < l.i → get_or l.settings k 0 ≡ get_or l.machine.last.settings k 0;
}
