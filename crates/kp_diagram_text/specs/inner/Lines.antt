-- The text of a line with its label.
use Rattle.std.specs.Prelude.{ℕ, List}
use Rattle.kp_diagram_text.specs.declared.{chart.Chart.Chart, labelled.Labelled.Labelled}
use Rattle.kp_diagram_text.specs.{Charts.names_of, Labelled.fetch_at, Labelled.labelled_at}

abbrev pub line_of : Chart → ℕ → Labelled → List ℕ
line_of c width l = labelled_at width (names_of c) l.label.items l.entry.cycle l.entry.number (fetch_at c l.entry).cells
