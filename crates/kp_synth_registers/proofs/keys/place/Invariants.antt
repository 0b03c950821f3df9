use Rattle.std.proofs.Common.{◌≡◌, ◌+◌, drop}
use Rattle.kp_synth_registers.specs.Keys.{place_in}
use Rattle.kp_synth_registers.proofs.keys.place.Given as goal

abbrev pub invariant-loop-r : goal.invariant-loop-r
invariant-loop-r l = l.r + place_in (drop l.r l.keys) l.key ≡ place_in l.keys l.key
