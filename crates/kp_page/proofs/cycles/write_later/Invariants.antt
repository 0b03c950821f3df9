use Rattle.std.proofs.Common.{◌≡◌, ◌+◌, ◌-◌, ◌≤◌, length}
use Rattle.kp_base.specs.inner.Bytes.{WrittenUpTo}
use Rattle.kp_page.specs.{States.recorded_from, Runs.after_cycles, inner.Seen.states_of}
use Rattle.kp_page.proofs.cycles.write_later.Given as goal

abbrev pub invariant-loop-cycle : goal.invariant-loop-cycle
invariant-loop-cycle g l = record {
  now : l.now ≡ after_cycles l.job.design.job l.fn.now.net l.cycle;
  before : l.before ≡ after_cycles l.job.design.job l.fn.now.net l.cycle;
  room : length l.room ≡ length l.job.sections.inputs;
  text : WrittenUpTo (recorded_from l.job.design.job.decls (states_of l.job.design.job l.fn.now.net) 1 l.count)
      (recorded_from l.job.design.job.decls (states_of l.job.design.job l.fn.now.net) (l.cycle + 1) (l.count - l.cycle))
      (g.K.Sink.held l.initial.sink) (g.K.Sink.held l.sink);
  later : g.K.Sink.faults l.initial.sink ≤ g.K.Sink.faults l.sink;
}
