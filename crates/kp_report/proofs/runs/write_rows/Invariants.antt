use Rattle.std.proofs.Common.{◌≤◌, drop}
use Rattle.kp_base.specs.inner.Bytes.{WrittenUpTo}
use Rattle.kp_sched.specs.{Lines.row_lines, Rows.rows_seen}
use Rattle.kp_report.proofs.runs.write_rows.Given as goal

abbrev pub invariant-loop-cycle : goal.invariant-loop-cycle
invariant-loop-cycle g l = record {
  text : WrittenUpTo (row_lines 0 (rows_seen l.n l.rows)) (row_lines l.cycle (rows_seen l.n (drop l.cycle l.rows)))
      (g.K.Sink.held l.initial.sink) (g.K.Sink.held l.sink);
  later : g.K.Sink.faults l.initial.sink ≤ g.K.Sink.faults l.sink;
}
