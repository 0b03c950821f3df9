use Rattle.std.proofs.Common.{◌≡◌, ◌-◌, ◌≤◌}
use Rattle.kp_base.specs.inner.Bytes.{WrittenUpTo}
use Rattle.kp_timing.{specs.Lines.timing_text, specs.Timed.hold_of, proofs.Texts.text_left}
use Rattle.kp_timing.proofs.timing_text.write_cycles.Given as goal

abbrev pub invariant-loop-cycle : goal.invariant-loop-cycle
invariant-loop-cycle g l = record {
  job : l.timeline.job ≡ l.initial.timeline.job;
  ran : l.timeline.cycles ≡ l.cycle;
  retired : l.totals.retired ≤ l.cycle;
  waited : l.totals.waited ≤ l.cycle;
  text : WrittenUpTo (timing_text l.initial.timeline.job l.count)
      (text_left l.timeline.job l.timeline.start (l.count - l.cycle) l.cycle (hold_of l.timeline) l.totals.retired l.totals.waited)
      (g.K.Sink.held l.initial.sink) (g.K.Sink.held l.sink);
  later : g.K.Sink.faults l.initial.sink ≤ g.K.Sink.faults l.sink;
}
