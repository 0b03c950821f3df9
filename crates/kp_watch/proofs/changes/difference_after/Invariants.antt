use Rattle.kp_implements.specs.Naming.{value_shown}
use Rattle.kp_watch.specs.inner.{Comparing.AgreeBelow, Machines.due_by}
use Rattle.kp_watch.proofs.changes.difference_after.Given as goal

abbrev pub invariant-loop-t : goal.invariant-loop-t
invariant-loop-t l = AgreeBelow l.job.design.job (value_shown l.job.design.job l.both.sim.net l.both.sim.state) (due_by l.job.design.job l.both.machines.items) l.t
