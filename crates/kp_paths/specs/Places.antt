-- WHERE the parts of a picture are, in pixels. A job has at most 12 stages and 256 reads, so the bounds here change nothing.
use Rattle.std.specs.Prelude.{ℕ, ◌+◌, ◌-◌, ◌*◌, min, max, List, [], ◌∷◌, length}
use Rattle.kp_ast.specs.declared.tree.{Block.Block, Job.Job, ReadStmt.ReadStmt, Stmt.Stmt, StmtKind.StmtKind}
use Rattle.kp_ast.specs.declared.tree.StmtKind.TheVariants as stmts
use Rattle.kp_paths.specs.Arrows.{arrows}

-- THE LABELS: the characters that the label of a read has at most, and the most of these among some reads, or `most` if that is more
abbrev pub label_room : ReadStmt → ℕ
label_room r = length r.name.name + length r.target.name + 7

abbrev pub wider : ℕ → StmtKind → ℕ
wider most (stmts.Read r) = max most (label_room r)
wider most _ = most

abbrev pub widest_in : ℕ → List Stmt → ℕ
widest_in most [] = most
widest_in most (s ∷ ss) = widest_in (wider most s.kind) ss

abbrev pub widest_from : ℕ → List Block → ℕ
widest_from most [] = most
widest_from most (b ∷ bs) = widest_from (widest_in most b.stmts) bs

-- THE COLUMNS: where the first one begins, right of the labels; from there the middle of stage j, and the end of n columns
abbrev pub left_end : Job → ℕ
left_end job = 8 * widest_from 22 job.blocks + 32

abbrev pub middle : ℕ → ℕ
middle j = 110 * min j 11 + 55

abbrev pub right_end : ℕ → ℕ
right_end n = 110 * min n 12

-- THE ROWS: the height of a row with this many arrows, and the line, in a row from `top` on, on which the stages are
abbrev pub row_height : ℕ → ℕ
row_height arrows = 16 * min arrows 12 + 46

abbrev pub line_in : (top arrows : ℕ) → ℕ
line_in top arrows = top + 16 * min arrows 12 + 26

-- the end of the row of a statement in stage k that begins at `top`; of the rows of more of them, and of blocks
abbrev pub row_end : Job → ℕ → ℕ → StmtKind → ℕ
row_end job k top (stmts.Read r) = min (top + row_height (length (arrows job r k))) 60000
row_end job k top _ = top

abbrev pub rows_end : Job → ℕ → ℕ → List Stmt → ℕ
rows_end job k top [] = top
rows_end job k top (s ∷ ss) = rows_end job k (row_end job k top s.kind) ss

abbrev pub blocks_end : Job → ℕ → ℕ → List Block → ℕ
blocks_end job k top [] = top
blocks_end job k top (b ∷ bs) = blocks_end job (k + 1) (rows_end job k top b.stmts) bs

-- the first row begins below the heads of the columns
abbrev pub bottom : Job → ℕ
bottom job = blocks_end job 0 80 job.blocks

-- THE SIZE of the picture, with a headline for a name of this many characters, and a legend below the rows
abbrev pub width_of : (left stages name : ℕ) → ℕ
width_of left n name = max (left + right_end n + 20) (max (10 * name + 360) 700)

abbrev pub height_of : ℕ → ℕ
height_of rows = rows + 104

-- AN ARROW from stage j to the read in stage k goes up, the higher the further it goes, and comes down in the column of stage k, the further to the left.
abbrev pub level : (stage other : ℕ) → ℕ
level k j = 16 * min (j - k) 11 + 10

abbrev pub landing : (stage other : ℕ) → ℕ
landing k j = (middle k + 48) - 8 * min (j - k) 11
