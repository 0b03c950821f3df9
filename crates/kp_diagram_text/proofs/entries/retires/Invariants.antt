use Rattle.std.{proofs.Common.◌≡◌, proofs.Common.◌<◌, proofs.Common.drop, specs.Prelude.IfSome}
use Rattle.kp_diagram.specs.Diagram.{cells_from, retires}
use Rattle.kp_sched.specs.Rows.{rows_seen}
use Rattle.kp_diagram_text.specs.{Charts.ext_of, Labelled.fetch_at}
use Rattle.kp_diagram_text.proofs.entries.retires.Given as goal

abbrev pub invariant-loop-cycle : goal.invariant-loop-cycle
invariant-loop-cycle l = record {
  same : retires l.chart.stages (cells_from l.chart.stages (ext_of l.chart) l.cycle (rows_seen l.chart.stages (drop l.cycle l.chart.rows.now)) l.place)
      ≡ retires l.chart.stages (fetch_at l.chart l.fn.entry).cells;
  within : IfSome l.place (λ k. k < l.chart.stages);
}
