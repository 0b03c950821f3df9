use Rattle.std.proofs.Common.{◌≡◌, length}
use Rattle.kp_stalls_run.specs.inner.Replays.{run_at}
use Rattle.kp_stalls_run.proofs.guesses.go_to.Given as goal

abbrev pub invariant-loop-cycle : goal.invariant-loop-cycle
invariant-loop-cycle l = record {
  at : l.sim ≡ run_at l.job.design.job l.fn.sim.net l.cycle;
  room : length l.room ≡ length l.fn.room;
}
