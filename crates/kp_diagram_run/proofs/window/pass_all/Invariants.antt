use Rattle.std.proofs.Common.{◌≡◌, length}
use Rattle.kp_stage.specs.Start.{stall_word}
use Rattle.kp_sched.specs.Rows.{bit_of}
use Rattle.kp_net.specs.Netlist.{run}
use Rattle.kp_run.specs.Cycles.{after_cycles, inputs_to}
use Rattle.kp_diagram_run.specs.inner.Walks.{IsWalked}
use Rattle.kp_diagram_run.proofs.window.pass_all.Given as goal

abbrev pub invariant-loop-cycle : goal.invariant-loop-cycle
invariant-loop-cycle l = record {
  at : l.sim ≡ after_cycles l.job.design.job l.initial.sim.net l.cycle;
  room : length l.room ≡ length l.initial.room;
  walked : IsWalked l.job.design.job.stages.value (λ T. bit_of (stall_word l.job.design.job T)) (run l.initial.sim.net (inputs_to l.job.design.job l.cycle)).rows l.walk;
}
