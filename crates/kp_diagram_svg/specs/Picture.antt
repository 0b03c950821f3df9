-- THE PICTURE of a run, as SVG 1.1: self-contained plain text in ASCII, with no script. It consists of fixed texts of the program (`src/texts.rt`), and this says
-- how often each is written, and what fills its holes.
use Rattle.std.specs.Prelude.{ℕ, ◌+◌, ◌-◌, ◌*◌, ◌==◌, Bool, cond, List, [], ◌∷◌, ◌++◌, length, flat_map, codes, decimal, if◌then◌else◌}
use Rattle.kp_pipeline.specs.Rows as pipeline
use Rattle.kp_base.specs.Texts.{filled}
use Rattle.kp_diagram.specs.Diagram.{Account, Cell, Fetch, Mark, Moves, WaitsForValue, WaitsForStage, Held, Squashed, is_squashed}
use Rattle.kp_diagram_text.specs.{declared.chart.Chart.Chart, Charts.figure_of, Charts.rows_of, Figures.Figure, Text.longest, Text.rate, Text.stage_name}
use Rattle.kp_diagram_svg.specs.Sizes.{account_left, column_of, half_of, height_of, legend_line, line_of, middle_of, rows_height, width_of}
use Rattle.kp_diagram_svg.specs.declared.texts.TheConstants.{TITLE, SHAPES, COLUMNS, COLUMN, ROW, ROW_END, CELL, CELL_END, FOOT, END}

-- THE HEAD of a picture of this size: the caption `mini5: 5 stages, 26 cycles` is its title and its headline.
abbrev pub plural : ℕ → List ℕ
plural count = if count == 1 then [] else codes "s"

abbrev pub title : List ℕ → (stages cycles width height : ℕ) → List ℕ
title name n cycles width height =
    filled TITLE.now
    (decimal width ∷ decimal height ∷ decimal width ∷ decimal height ∷ name ∷ decimal n ∷ decimal cycles ∷ plural cycles
    ∷ name ∷ decimal n ∷ decimal cycles ∷ plural cycles ∷ [])

-- the shapes of cells of this half width: the box and its field, the cross and its field, where a sign is in a cell, and the grid
abbrev pub shapes : (half cycles rows : ℕ) → List ℕ
shapes half cycles rows =
    filled SHAPES.now
    (decimal half ∷ decimal (2 * half) ∷ decimal (half - 6) ∷ decimal (2 * (half - 6))
    ∷ decimal half ∷ decimal half ∷ decimal half ∷ decimal half ∷ decimal (half - 13) ∷ decimal (2 * (half - 13))
    ∷ decimal (half - 11) ∷ decimal (half - 11) ∷ decimal (half - 11)
    ∷ decimal (half + 2) ∷ decimal (rows_height rows) ∷ decimal (half + 2) ∷ decimal (column_of half) ∷ decimal (rows_height rows) ∷ decimal (cycles * column_of half) ∷ [])

abbrev pub head : List ℕ → (stages half cycles rows : ℕ) → List ℕ
head name n half cycles rows = title name n cycles (width_of half cycles) (height_of rows) ++ shapes half cycles rows

-- THE COLUMNS of the cycles from cycle T on: a guess was wrong where a row squashes stage 0.
abbrev pub column_text : ℕ → ℕ → Bool → List ℕ
column_text half T wrong = filled COLUMN.now (decimal (middle_of half T) ∷ decimal (cond wrong 1 0) ∷ decimal T ∷ [])

abbrev pub columns_text : ℕ → ℕ → List pipeline.Row → List ℕ
columns_text half T [] = []
columns_text half T (r ∷ rows) = column_text half T (is_squashed r 0) ++ columns_text half (T + 1) rows

-- the number of the shape by which a cell shows its mark
abbrev pub look : Mark → ℕ
look Moves = 0
look WaitsForValue = 1
look WaitsForStage = 2
look Held = 3
look Squashed = 4

-- A CELL has the colour of its stage, the look of its mark, and the stage's name; a pointer on it shows the instruction and the cycle.
abbrev pub cell_start : (half number cycle stage look : ℕ) → List ℕ
cell_start half number T k look = filled CELL.now (decimal (middle_of half T) ∷ decimal number ∷ decimal T ∷ decimal k ∷ decimal look ∷ [])

abbrev pub cell_text : ℕ → List (List ℕ) → ℕ → Cell → List ℕ
cell_text half names number c = cell_start half number c.cycle c.stage (look c.mark) ++ (stage_name names c.stage ++ CELL_END.now)

abbrev pub cells_text : ℕ → List (List ℕ) → ℕ → List Cell → List ℕ
cells_text half names number cells = flat_map (cell_text half names number) cells

-- A ROW has the number of the instruction, and the cells of the fetch. Row 0 is at the top.
abbrev pub row_text : ℕ → List (List ℕ) → ℕ → ℕ → List Cell → List ℕ
row_text half names i number cells = filled ROW.now (decimal (line_of i) ∷ decimal number ∷ []) ++ (cells_text half names number cells ++ ROW_END.now)

-- the rows of these fetches, from row i on
abbrev pub rows_text : ℕ → List (List ℕ) → ℕ → List Fetch → List ℕ
rows_text half names i [] = []
rows_text half names i (f ∷ fetches) = row_text half names i f.number f.cells ++ rows_text half names (i + 1) fetches

abbrev pub cells_part : ℕ → List (List ℕ) → List pipeline.Row → List Fetch → List ℕ
cells_part half names rows fetches = COLUMNS.now ++ (columns_text half 0 rows ++ (ROW_END.now ++ rows_text half names 0 fetches))

-- THE FOOT: the legend, and the account at the right of it, with the cycles per instruction, `1.53`, or `-` where nothing retired.
abbrev pub table : (half y cycles : ℕ) → Account → List ℕ
table half y cycles a =
    filled FOOT.now
    (decimal (half + 16) ∷ decimal y ∷ decimal (2 * half + 26) ∷ decimal y ∷ decimal (account_left half) ∷ decimal y ∷ decimal (account_left half + 212) ∷ decimal y
    ∷ decimal cycles ∷ decimal a.retired ∷ decimal a.filling ∷ decimal a.hazards ∷ decimal a.guesses ∷ decimal a.outside ∷ [])

abbrev pub rate_shown : ℕ → ℕ → List ℕ
rate_shown cycles retired = if retired == 0 then codes "-" else rate cycles retired

abbrev pub foot : (half cycles rows : ℕ) → Account → List ℕ
foot half cycles rows a = table half (legend_line rows) cycles a ++ (rate_shown cycles a.retired ++ END.now)

-- The picture of a figure, with the rows of its run.
abbrev pub picture : Figure → List pipeline.Row → List ℕ
picture f rows =
    let half = half_of (longest f.names f.stages) in
    head f.name f.stages half f.cycles (length f.fetches)
    ++ (cells_part half f.names rows f.fetches ++ foot half f.cycles (length f.fetches) f.account)

-- THE TEXT of the picture of a chart.
unfoldable pub svg_text : Chart → List ℕ
svg_text c = picture (figure_of c) (rows_of c)
