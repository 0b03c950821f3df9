use Rattle.std.proofs.Common.{◌-◌, ◌≤◌}
use Rattle.kp_base.specs.inner.Bytes.{WrittenUpTo}
use Rattle.kp_sched.specs.Rows.{rows_seen}
use Rattle.kp_report.specs.Runs.{counts_from, counts_behind}
use Rattle.kp_report.proofs.runs.write_each.Given as goal

abbrev pub invariant-loop-k : goal.invariant-loop-k
invariant-loop-k g l = record {
  text : WrittenUpTo (counts_from (counts_behind l.monitor.stages (rows_seen l.monitor.stages l.rows)) l.monitor.stages 0)
      (counts_from (counts_behind l.monitor.stages (rows_seen l.monitor.stages l.rows)) (l.monitor.stages - l.k) l.k)
      (g.K.Sink.held l.initial.sink) (g.K.Sink.held l.sink);
  later : g.K.Sink.faults l.initial.sink ≤ g.K.Sink.faults l.sink;
}
