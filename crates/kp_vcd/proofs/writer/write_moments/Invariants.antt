use Rattle.std.proofs.Common.{◌≤◌, drop}
use Rattle.kp_base.specs.inner.Bytes.{WrittenUpTo}
use Rattle.kp_vcd.specs.Text.{moment_lines}
use Rattle.kp_vcd.proofs.writer.write_moments.Given as goal

abbrev pub invariant-loop-moment : goal.invariant-loop-moment
invariant-loop-moment g l = record {
  text : WrittenUpTo (moment_lines l.moments) (moment_lines (drop l.moment-index l.moments))
      (g.K.Sink.held l.initial.sink) (g.K.Sink.held l.sink);
  later : g.K.Sink.faults l.initial.sink ≤ g.K.Sink.faults l.sink;
}
