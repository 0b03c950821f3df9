use Rattle.kp_implements.specs.Naming.{value_shown}
use Rattle.kp_watch.specs.inner.{Comparing.AgreeBelow, Machines.due_by}
use Rattle.kp_watch.proofs.compare.difference_in.Given as goal

abbrev pub invariant-loop-t : goal.invariant-loop-t
invariant-loop-t l = AgreeBelow l.job.design.job (value_shown l.job.design.job l.sim.net l.sim.state) (due_by l.job.design.job l.machines) l.t
