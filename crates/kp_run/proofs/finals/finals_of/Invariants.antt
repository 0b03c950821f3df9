use Rattle.std.proofs.Common.{◌≡◌, ◌<◌, ℕ, [], length, get_or}
use Rattle.kp_implements.specs.Naming.{value_shown}
use Rattle.kp_run.specs.inner.Finals.{AreWords}
use Rattle.kp_run.proofs.finals.finals_of.Given as goal

abbrev pub invariant-loop-t : goal.invariant-loop-t
invariant-loop-t l =
    (length l.finals.items ≡ l.t)
    × ((s : ℕ) → s < l.t → AreWords l.design.job s (value_shown l.design.job l.sim.net l.sim.state s) (get_or l.finals.items s []))
