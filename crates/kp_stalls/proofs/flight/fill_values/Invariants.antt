use Rattle.std.proofs.Common.{◌≡◌, ℕ, ◌<◌, length, get_or, map}
use Rattle.kp_seq.specs.Running.{state}
use Rattle.kp_stalls.specs.Occupants.{no_value, value_before}
use Rattle.kp_stalls.proofs.flight.fill_values.Given as goal

abbrev pub invariant-loop-i : goal.invariant-loop-i
invariant-loop-i l = record {
  count : length l.values ≡ length l.sites;
  taken : (k : ℕ) → k < l.i → get_or l.values k no_value ≡ get_or (map (value_before l.machine.job (state l.machine)) l.sites) k no_value;
}
