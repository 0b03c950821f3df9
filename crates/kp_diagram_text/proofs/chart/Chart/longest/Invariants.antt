use Rattle.std.proofs.Common.{◌≡◌, ◌≤◌}
use Rattle.kp_diagram_text.specs.{Charts.names_of, Text.longest}
use Rattle.kp_diagram_text.proofs.chart.Chart.longest.Given as goal

abbrev pub invariant-loop-k : goal.invariant-loop-k
invariant-loop-k l = record {
  value : l.longest ≡ longest (names_of l.self) l.k;
  few : l.longest ≤ 8;
}
