use Rattle.std.proofs.Common.{◌≤◌, drop}
use Rattle.kp_base.specs.inner.Bytes.{WrittenUpTo}
use Rattle.kp_vcd.specs.Text.{signal_lines}
use Rattle.kp_vcd.proofs.writer.write_signals.Given as goal

abbrev pub invariant-loop-number : goal.invariant-loop-number
invariant-loop-number g l = record {
  text : WrittenUpTo (signal_lines 0 l.signals) (signal_lines l.number (drop l.number l.signals))
      (g.K.Sink.held l.initial.sink) (g.K.Sink.held l.sink);
  later : g.K.Sink.faults l.initial.sink ≤ g.K.Sink.faults l.sink;
}
