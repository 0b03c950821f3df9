use Rattle.std.proofs.Common.{◌≡◌, ◌++◌, drop}
use Rattle.kp_vcd.specs.inner.Shown.{shown_at}
use Rattle.kp_vcd.proofs.run_values.registers_in.Given as goal

abbrev pub invariant-loop-i : goal.invariant-loop-i
invariant-loop-i l = l.values.items ++ shown_at l.sim (drop l.i l.places) ≡ shown_at l.sim l.places
