use Rattle.kp_until_run.specs.Ending.{retired_in, states_in}
use Rattle.kp_until_run.specs.inner.{Pasts.NoneBelow, Races.IsAt}
use Rattle.kp_until_run.proofs.ended.run_to.Given as goal

abbrev pub invariant-loop-cycle : goal.invariant-loop-cycle
invariant-loop-cycle l = record {
  at : IsAt l.job.design.job l.net l.limit l.cycle l.race;
  below : NoneBelow l.job.design.job (states_in l.job.design.job l.limit) l.untils (retired_in l.job.design.job l.cycle);
}
