use Rattle.std.proofs.Common.{◌≡◌, length}
use Rattle.kp_run.specs.Cycles.{after_cycles}
use Rattle.kp_vcd.specs.{Recording.HasRecorded, Dumps.values_at, Dumps.own_run}
use Rattle.kp_vcd.proofs.run_dump.moments_of.Given as goal

abbrev pub invariant-loop-cycle : goal.invariant-loop-cycle
invariant-loop-cycle l = record {
  sim : l.sim ≡ after_cycles l.job.design.job l.net l.cycle;
  recorded : HasRecorded (values_at l.job.design.job (own_run l.job.design.job l.count)) l.count l.cycle l.recorder;
  room : length l.room ≡ length l.job.sections.inputs;
}
