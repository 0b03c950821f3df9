-- THE PAGE of a run, as one self-contained HTML file.
use Rattle.std.specs.Prelude.{ℕ, zero, suc, ◌+◌, ◌==◌, List, [], ◌∷◌, ◌++◌, flat_map, codes, if◌then◌else◌}
use Rattle.kp_pipeline.specs.Rows.{Row}
use Rattle.kp_diagram_text.specs.{Figures.Figure, Text.stage_name}
use Rattle.kp_diagram_svg.specs.Picture.{picture}
use Rattle.kp_page.specs.declared.texts.TheConstants.{FRONT, BEFORE_SOURCE, BEFORE_DIAGRAM, BEFORE_PATHS, BEFORE_STAGES, BEFORE_STATES, END}

-- THE FIXED PARTS of a page are constants of the program, in order.
-- the page up to the name of the machine
unfoldable pub front : List ℕ
front = FRONT.now

-- up to the source
unfoldable pub before_source : List ℕ
before_source = BEFORE_SOURCE.now

-- up to the picture
unfoldable pub before_diagram : List ℕ
before_diagram = BEFORE_DIAGRAM.now

-- up to the table of paths
unfoldable pub before_paths : List ℕ
before_paths = BEFORE_PATHS.now

-- up to the names of the stages
unfoldable pub before_stages : List ℕ
before_stages = BEFORE_STAGES.now

-- up to the states
unfoldable pub before_states : List ℕ
before_states = BEFORE_STATES.now

-- the rest of the page
unfoldable pub last_part : List ℕ
last_part = END.now

-- A byte of the source as text of HTML: `&`, `<` and `>` are escaped, and each line is an item of a numbered list.
unfoldable pub escaped : ℕ → List ℕ
escaped byte =
    if byte == 38 then codes "&amp;" else if byte == 60 then codes "&lt;" else if byte == 62 then codes "&gt;"
    else if byte == 10 then codes "\n<li>" else byte ∷ []

abbrev pub source_text : List ℕ → List ℕ
source_text source = flat_map escaped source

-- The names of stage k and the n - 1 stages after it, one in a line.
abbrev pub stage_lines : List (List ℕ) → ℕ → ℕ → List ℕ
stage_lines names k zero = []
stage_lines names k (suc n) = (stage_name names k ++ codes "\n") ++ stage_lines names (k + 1) n

abbrev pub head_part : List ℕ → List ℕ
head_part name = front ++ (name ++ before_source)

abbrev pub stages_part : List (List ℕ) → ℕ → List ℕ
stages_part names n = before_stages ++ (stage_lines names 0 n ++ before_states)

abbrev pub paths_part : List ℕ → List (List ℕ) → ℕ → List ℕ
paths_part paths names n = before_paths ++ (paths ++ stages_part names n)

abbrev pub diagram_part : Figure → List Row → List ℕ → List ℕ
diagram_part f rows paths = before_diagram ++ (picture f rows ++ paths_part paths f.names f.stages)

-- What comes before the states: the source of the job, the picture of the figure of its run, with the rows of the run, and the table of its paths.
abbrev pub page_start : Figure → List Row → (source paths : List ℕ) → List ℕ
page_start f rows source paths = head_part f.name ++ (source_text source ++ diagram_part f rows paths)

-- THE TEXT of the page, with these paths and states.
abbrev pub page : Figure → List Row → (source paths states : List ℕ) → List ℕ
page f rows source paths states = page_start f rows source paths ++ (states ++ last_part)
