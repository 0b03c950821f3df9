-- THE TEXT OF A WINDOW WITH LABELS: each line has one after the number of its instruction, and a heading of the labels is above them.
use Rattle.std.specs.Prelude.{ℕ, ◌+◌, ◌*◌, ◌<◌, ◌==◌, List, ◌++◌, flat_map, length, drop, codes, decimal, Some, if◌then◌else◌}
use Rattle.kp_sched.specs.Rows.{rows_seen}
use Rattle.kp_diagram.specs.Diagram.{Cell, Fetch, cells_from}
use Rattle.kp_diagram_text.specs.declared.{chart.Chart.Chart, entries.Entry.Entry}
use Rattle.kp_diagram_text.specs.{Charts.ext_of, Figures.Figure}
use Rattle.kp_diagram_text.specs.Text.{account_text, cells_text, column, cycle_numbers, entered, in_column, legend, spaces, title, window_title}

-- an instruction that is in a stage in a cycle of the chart, and has its cells from there on
abbrev pub fetch_at : Chart → Entry → Fetch
fetch_at c e = record { number = e.number; cells = cells_from c.stages (ext_of c) e.cycle (rows_seen c.stages (drop e.cycle c.rows.now)) (Some e.stage) }

-- the chart has the cycle, and the stage
pub record IsEntry (c : Chart) (e : Entry) : Type 0 where
  pub cycle : e.cycle < length c.rows.now
  pub stage : e.stage < c.stages

-- the number of an instruction that enters in cycle T and its label, up to the column of that cycle
abbrev pub labelled_start : ℕ → List ℕ → ℕ → ℕ → List ℕ
labelled_start width label number T = in_column 11 (decimal number) ++ (codes " " ++ (label ++ spaces (T * width)))

abbrev pub labelled_at : ℕ → List (List ℕ) → List ℕ → ℕ → ℕ → List Cell → List ℕ
labelled_at width names label T number cells = labelled_start width label number T ++ (cells_text width names cells ++ codes "\n")

-- THE LINE of an instruction with its label.
abbrev pub labelled_line : ℕ → List (List ℕ) → (Fetch → List ℕ) → Fetch → List ℕ
labelled_line width names label f = labelled_at width names (label f) (entered f.cells) f.number f.cells

-- a window from the first cycle on has the title of a run
abbrev pub span_title : List ℕ → ℕ → ℕ → ℕ → List ℕ
span_title name n from count = if from == 0 then title name n count else window_title name n from count

-- THE TEXT of a window that begins with this cycle, with these labels and their heading.
unfoldable pub labelled_text : List ℕ → (Fetch → List ℕ) → ℕ → Figure → List ℕ
labelled_text heading label from f =
    let width = column f.names f.stages (from + f.cycles) in
    (span_title f.name f.stages from f.cycles ++ (heading ++ (cycle_numbers width from f.cycles ++ codes "\n")))
    ++ (flat_map (labelled_line width f.names label) f.fetches ++ (legend ++ account_text f.cycles f.account))
