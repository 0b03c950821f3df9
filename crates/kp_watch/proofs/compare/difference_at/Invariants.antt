use Rattle.std.proofs.Common.{◌≡◌, ◌<◌, ℕ}
use Rattle.kp_seq.specs.Running.{state}
use Rattle.kp_implements.specs.Naming.{value_shown}
use Rattle.kp_watch.proofs.compare.difference_at.Given as goal

abbrev pub invariant-loop-address : goal.invariant-loop-address
invariant-loop-address l = (b : ℕ) → b < l.address → value_shown l.machine.job l.sim.net l.sim.state l.t b ≡ state l.machine l.t b
