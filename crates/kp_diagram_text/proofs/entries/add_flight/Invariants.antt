use Rattle.std.proofs.Common.{◌≡◌, ◌++◌, All, map, take}
use Rattle.kp_diagram.specs.Flights.{carried}
use Rattle.kp_diagram_text.specs.{Charts.ext_of, Charts.rows_of, Labelled.IsEntry, Labelled.fetch_at, Windows.placed_seen}
use Rattle.kp_diagram_text.proofs.entries.add_flight.Given as goal

abbrev pub invariant-loop-placed : goal.invariant-loop-placed
invariant-loop-placed l = record {
  entries : map (fetch_at l._chart) l.entries.items
      ≡ map (fetch_at l._chart) l.initial.entries.items ++ carried l._chart.stages (ext_of l._chart) 0 (rows_of l._chart) (map placed_seen (take l.placed-index l.flight));
  within : All (IsEntry l._chart) l.entries.items;
}
