use Rattle.std.proofs.Common.{◌-◌, ◌≤◌}
use Rattle.kp_base.specs.inner.Bytes.{WrittenUpTo}
use Rattle.kp_diagram_text.specs.Charts.{names_of}
use Rattle.kp_page.specs.Page.{stage_lines}
use Rattle.kp_page.proofs.stages.write_stage_lines.Given as goal

abbrev pub invariant-loop-k : goal.invariant-loop-k
invariant-loop-k g l = record {
  text : WrittenUpTo (stage_lines (names_of l.chart) 0 l.chart.stages) (stage_lines (names_of l.chart) l.k (l.chart.stages - l.k))
      (g.K.Sink.held l.initial.sink) (g.K.Sink.held l.sink);
  later : g.K.Sink.faults l.initial.sink ≤ g.K.Sink.faults l.sink;
}
