-- THE TEXT of the table of a job, with the names of the stages, if there are some.
use Rattle.std.specs.Prelude.{ℕ, zero, suc, ◌+◌, ◌-◌, ◌==◌, max, List, [], ◌∷◌, ◌++◌, cond, ltb, get_or, length, codes, decimal, is_some, if◌then◌else◌}
use Rattle.kp_base.specs.Texts.{in_column, spaces}
use Rattle.kp_ast.specs.declared.tree.{ReadStmt.ReadStmt, Stmt.Stmt, StmtKind.StmtKind, Block.Block, Job.Job}
use Rattle.kp_ast.specs.declared.tree.StmtKind.TheVariants as stmts
use Rattle.kp_machine.specs.Machine.{result_for}
use Rattle.kp_paths.specs.declared.cell.Cell.{Cell}
use Rattle.kp_paths.specs.declared.cell.Cell.TheVariants.{Reads, Empty, Wait, Guess, Maybe, Bypass}
use Rattle.kp_paths.specs.Table.{cell_at, target_read}

-- a text at the left end of a column
abbrev pub at_left : ℕ → List ℕ → List ℕ
at_left width text = text ++ spaces (width - length text)

-- A STAGE at the head of its column: its name, or its number where it has none
abbrev pub stage_head : List (List ℕ) → ℕ → List ℕ
stage_head names k = cond (ltb k (length names)) (get_or names k []) (decimal k)

-- and elsewhere
abbrev pub stage_text : List (List ℕ) → ℕ → List ℕ
stage_text names k = cond (ltb k (length names)) (get_or names k []) (codes "stage " ++ decimal k)

-- the width of its column: names have up to 8 characters
abbrev pub column : List (List ℕ) → ℕ
column names = if length names == 0 then 7 else 10

-- THE LABEL of a read: `a = X`, or `a = R[..]` for a word of a file
abbrev pub brackets : ReadStmt → List ℕ
brackets r = if is_some r.address then codes "[..]" else []

abbrev pub label : ReadStmt → List ℕ
label r = r.name.name ++ (codes " = " ++ (r.target.name ++ brackets r))

-- the length of the longest one, or `width` if that is more
abbrev pub longer : ℕ → StmtKind → ℕ
longer width (stmts.Read r) = max width (length (label r))
longer width _ = width

abbrev pub longest_in : ℕ → List Stmt → ℕ
longest_in width [] = width
longest_in width (s ∷ ss) = longest_in (longer width s.kind) ss

abbrev pub longest_from : ℕ → List Block → ℕ
longest_from width [] = width
longest_from width (b ∷ bs) = longest_from (longest_in width b.stmts) bs

-- THE WIDTH of the first column: at least that of the word `read`
abbrev pub label_width : Job → ℕ
label_width job = longest_from 4 job.blocks

-- THE CELLS of a row, for `count` stages from j on
abbrev pub cell_word : Cell → List ℕ
cell_word Reads = codes "reads"
cell_word Empty = codes "."
cell_word Wait = codes "wait"
cell_word Guess = codes "guess"
cell_word Maybe = codes "maybe"
cell_word Bypass = codes "bypass"

abbrev pub cells_text : Job → ReadStmt → (width stage from count : ℕ) → List ℕ
cells_text job r width k j zero = []
cells_text job r width k j (suc count) = in_column width (cell_word (cell_at job r k j)) ++ cells_text job r width k (j + 1) count

abbrev pub note : Job → ReadStmt → List ℕ
note job r = if is_some (result_for job (target_read job r)) then [] else codes "   never written"

-- THE ROW of a read in stage k: its label, its line, its stage, its cells
abbrev pub place_text : List (List ℕ) → (pad line stage : ℕ) → List ℕ
place_text names pad line k = (spaces pad ++ (in_column 6 (decimal line) ++ codes "  ")) ++ at_left 8 (stage_text names k)

module _ (names : List (List ℕ)) where
  abbrev pub row_text : Job → ℕ → ℕ → ReadStmt → List ℕ
  row_text job width k r =
      label r ++ (place_text names (width - length (label r)) r.name.at.line k ++ (cells_text job r (column names) k 0 job.stages.value ++ (note job r ++ codes "\n")))

  abbrev pub rows_of : Job → ℕ → ℕ → StmtKind → List ℕ
  rows_of job width k (stmts.Read r) = row_text job width k r
  rows_of job width k _ = []

  abbrev pub rows_in : Job → ℕ → ℕ → List Stmt → List ℕ
  rows_in job width k [] = []
  rows_in job width k (s ∷ ss) = rows_of job width k s.kind ++ rows_in job width k ss

  abbrev pub rows_from : Job → ℕ → ℕ → List Block → List ℕ
  rows_from job width k [] = []
  rows_from job width k (b ∷ bs) = rows_in job width k b.stmts ++ rows_from job width (k + 1) bs

-- THE HEAD: the name of the machine, and the stages
abbrev pub stages_text : List (List ℕ) → ℕ → ℕ → List ℕ
stages_text names j zero = []
stages_text names j (suc count) = in_column (column names) (stage_head names j) ++ stages_text names (j + 1) count

unfoldable pub title_text : List ℕ → ℕ → List ℕ
title_text name width = name ++ (codes ": where each read takes its value from\n\nread" ++ (spaces (width - 4) ++ codes "  line  reads in"))

abbrev pub head_text : List (List ℕ) → Job → ℕ → List ℕ
head_text names job width = title_text job.name.name width ++ (stages_text names 0 job.stages.value ++ codes "\n")

unfoldable pub legend : List ℕ
legend =
    codes "\nbypass  the stage has the value, once it isn't stalled\nmaybe   it has the value if a set took place; else the read waits, or goes on with its guess\nwait    the read waits: nothing is set yet, or it isn't known whether the stage writes what is read\nguess   the same, but the read goes on with its guess\n"

-- THE TEXT.
unfoldable pub paths_text : List (List ℕ) → Job → List ℕ
paths_text names job =
    let width = label_width job in
    head_text names job width ++ (rows_from names job width 0 job.blocks ++ legend)
