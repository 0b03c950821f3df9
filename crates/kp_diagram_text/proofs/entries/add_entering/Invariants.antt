use Rattle.std.proofs.Common.{◌≡◌, ◌++◌, All, drop, false, get_or, map}
use Rattle.kp_diagram.specs.Flights.{entering}
use Rattle.kp_sched.specs.Rows.{rows_seen}
use Rattle.kp_diagram_text.specs.{Charts.ext_of, Charts.rows_of, Labelled.IsEntry, Labelled.fetch_at}
use Rattle.kp_diagram_text.proofs.entries.add_entering.Given as goal

abbrev pub invariant-loop-cycle : goal.invariant-loop-cycle
invariant-loop-cycle l = record {
  entries : map (fetch_at l.chart) l.entries.items
      ++ entering l.chart.stages (ext_of l.chart) l.cycle (λ T. get_or l.numbers T 0) l.enters (rows_seen l.chart.stages (drop l.cycle l.chart.rows.now))
      ≡ map (fetch_at l.chart) l.initial.entries.items ++ entering l.chart.stages (ext_of l.chart) 0 (λ T. get_or l.numbers T 0) false (rows_of l.chart);
  within : All (IsEntry l.chart) l.entries.items;
}
