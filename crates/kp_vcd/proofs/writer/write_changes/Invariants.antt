use Rattle.std.proofs.Common.{◌≤◌, drop}
use Rattle.kp_base.specs.inner.Bytes.{WrittenUpTo}
use Rattle.kp_vcd.specs.Text.{change_lines}
use Rattle.kp_vcd.proofs.writer.write_changes.Given as goal

abbrev pub invariant-loop-change : goal.invariant-loop-change
invariant-loop-change g l = record {
  text : WrittenUpTo (change_lines l.changes) (change_lines (drop l.change-index l.changes))
      (g.K.Sink.held l.initial.sink) (g.K.Sink.held l.sink);
  later : g.K.Sink.faults l.initial.sink ≤ g.K.Sink.faults l.sink;
}
