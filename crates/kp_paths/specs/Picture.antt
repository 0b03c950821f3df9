-- THE PICTURE of the paths of a job, in SVG 1.1: a column for each stage, and below them a row for each read. In a row an arrow goes to the stage of the
-- read from each stage that can be asked for the value, and shows the cell of the table. The fixed texts are those of the program (`src/texts.rt`), with holes that
-- the figure fills.
use Rattle.std.specs.Prelude.{ℕ, zero, suc, ◌+◌, List, [], ◌∷◌, ◌++◌, flat_map, length, codes, decimal, is_some, if◌then◌else◌}
use Rattle.kp_base.specs.Texts.{filled}
use Rattle.kp_ast.specs.declared.tree.{Block.Block, Job.Job, ReadStmt.ReadStmt, Stmt.Stmt, StmtKind.StmtKind}
use Rattle.kp_ast.specs.declared.tree.StmtKind.TheVariants as stmts
use Rattle.kp_machine.specs.Machine.{result_for}
use Rattle.kp_paths.specs.declared.cell.Cell.{Cell}
use Rattle.kp_paths.specs.declared.cell.Cell.TheVariants.{Reads, Empty, Wait, Guess, Maybe, Bypass}
use Rattle.kp_paths.specs.{Table.target_read, Text.brackets, Text.cell_word, Text.stage_text, Arrows.Arrow, Arrows.arrows}
use Rattle.kp_paths.specs.Places.{bottom, height_of, landing, left_end, level, line_in, middle, right_end, row_end, rows_end, width_of}
use Rattle.kp_paths.specs.declared.texts.TheConstants.{HEAD, COLUMN, COLUMN_END, ROW, LABEL, READ_BOX, ARROW_START, ARROW, ROW_END, LEGEND}

-- THE HEAD: the size, the title twice, for pointers and readers and as the headline, and where the columns begin
abbrev pub head_text : List ℕ → (left width height : ℕ) → List ℕ
head_text name left width height =
    filled HEAD.now (decimal width ∷ decimal height ∷ decimal width ∷ decimal height ∷ name ∷ name ∷ decimal left ∷ [])

-- THE COLUMN of stage j: its name or its number, and a line at its left side down all rows
abbrev pub column_text : List (List ℕ) → (stage x low : ℕ) → List ℕ
column_text names j x low = filled COLUMN.now (decimal x ∷ decimal low ∷ []) ++ (stage_text names j ++ COLUMN_END.now)

-- of `count` stages from j on
abbrev pub columns_text : List (List ℕ) → (low from count : ℕ) → List ℕ
columns_text names low j zero = []
columns_text names low j (suc count) = column_text names j (middle j) low ++ columns_text names low (j + 1) count

-- AN ARROW has the look and the word of the cell that it shows.
abbrev pub look : Cell → List ℕ
look Reads = []
look Empty = []
look Wait = codes "stroke='#a3121f' stroke-dasharray='2 3' marker-end='url(#wait)'"
look Guess = codes "stroke='#6a2f9c' stroke-dasharray='8 3 2 3' marker-end='url(#guess)'"
look Maybe = codes "stroke='#8a5200' stroke-dasharray='7 3' marker-end='url(#maybe)'"
look Bypass = codes "stroke='#1a5fb4' marker-end='url(#bypass)'"

-- what a pointer on it shows; from (x, 0) a line up, to the left, and down; its look; and its word
abbrev pub arrow_text : List (List ℕ) → ℕ → Arrow → List ℕ
arrow_text names k a =
    ARROW_START.now ++ (stage_text names a.stage ++ filled ARROW.now
    (cell_word a.cell ∷ decimal (middle a.stage) ∷ decimal (level k a.stage) ∷ decimal (landing k a.stage) ∷ look a.cell
    ∷ decimal (middle a.stage) ∷ decimal (level k a.stage) ∷ cell_word a.cell ∷ []))

abbrev pub arrows_text : List (List ℕ) → ℕ → List Arrow → List ℕ
arrows_text names k arrows = flat_map (arrow_text names k) arrows

-- THE ROW of a read in stage k: a line across all columns, the label of the table and the line of the job at the left, a box in its stage, and the arrows
abbrev pub row_start : ℕ → ℕ → List ℕ
row_start y right = filled ROW.now (decimal y ∷ decimal right ∷ [])

abbrev pub note : Job → ReadStmt → List ℕ
note job r = if is_some (result_for job (target_read job r)) then [] else codes ", never written"

abbrev pub row_label : ReadStmt → List ℕ → List ℕ
row_label r more = filled LABEL.now (r.name.name ∷ r.target.name ∷ brackets r ∷ decimal r.name.at.line ∷ more ∷ [])

abbrev pub read_box : ℕ → List ℕ
read_box x = filled READ_BOX.now (decimal x ∷ [])

module _ (names : List (List ℕ)) where
  abbrev pub row_text : Job → ℕ → ℕ → ReadStmt → List ℕ
  row_text job k top r =
      row_start (line_in top (length (arrows job r k))) (right_end job.stages.value)
      ++ (row_label r (note job r) ++ (read_box (middle k) ++ (arrows_text names k (arrows job r k) ++ ROW_END.now)))

  -- the rows of the reads in stage k and after it, from `top` on
  abbrev pub rows_of : Job → ℕ → ℕ → StmtKind → List ℕ
  rows_of job k top (stmts.Read r) = row_text job k top r
  rows_of job k top _ = []

  abbrev pub rows_in : Job → ℕ → ℕ → List Stmt → List ℕ
  rows_in job k top [] = []
  rows_in job k top (s ∷ ss) = rows_of job k top s.kind ++ rows_in job k (row_end job k top s.kind) ss

  abbrev pub rows_from : Job → ℕ → ℕ → List Block → List ℕ
  rows_from job k top [] = []
  rows_from job k top (b ∷ bs) = rows_in job k top b.stmts ++ rows_from job (k + 1) (rows_end job k top b.stmts) bs

-- THE LEGEND, below the rows
abbrev pub legend : ℕ → List ℕ
legend low = filled LEGEND.now (decimal low ∷ [])

abbrev pub body_text : List (List ℕ) → Job → ℕ → List ℕ
body_text names job low = columns_text names low 0 job.stages.value ++ (rows_from names job 0 80 job.blocks ++ legend low)

abbrev pub picture_text : List (List ℕ) → Job → ℕ → ℕ → List ℕ
picture_text names job left low = head_text job.name.name left (width_of left job.stages.value (length job.name.name)) (height_of low) ++ body_text names job low

-- THE TEXT.
unfoldable pub paths_svg_text : List (List ℕ) → Job → List ℕ
paths_svg_text names job = picture_text names job (left_end job) (bottom job)
