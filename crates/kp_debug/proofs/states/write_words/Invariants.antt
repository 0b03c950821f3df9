use Rattle.std.proofs.Common.{◌-◌, ◌≤◌, None}
use Rattle.kp_base.specs.inner.Bytes.{WrittenUpTo}
use Rattle.kp_machine.specs.Words.{target}
use Rattle.kp_report.specs.States.{lines_of_words}
use Rattle.kp_debug.specs.inner.Standing.{state_seen}
use Rattle.kp_debug.proofs.states.write_words.Given as goal

abbrev pub invariant-loop-address : goal.invariant-loop-address
invariant-loop-address g l = record {
  text : WrittenUpTo (lines_of_words l.name (target l.job.design.job l.t).width None (state_seen l.job.design.job l.session l.t) 0 l.count)
      (lines_of_words l.name (target l.job.design.job l.t).width None (state_seen l.job.design.job l.session l.t) l.address (l.count - l.address))
      (g.K.Sink.held l.initial.sink) (g.K.Sink.held l.sink);
  later : g.K.Sink.faults l.initial.sink ≤ g.K.Sink.faults l.sink;
}
