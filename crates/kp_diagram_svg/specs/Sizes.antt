-- THE SIZES of a picture, in pixels. A cell has room for the longest name of a stage; `half` is half of its width.
use Rattle.std.specs.Prelude.{ℕ, ◌+◌, ◌*◌, max}

abbrev pub half_of : ℕ → ℕ
half_of longest = 4 * longest + 14

-- A column is a cell with a margin of 2 at both sides.
abbrev pub column_of : ℕ → ℕ
column_of half = 2 * half + 4

-- from the left edge of cycle 0 to the middle of the column of cycle T
abbrev pub middle_of : (half cycle : ℕ) → ℕ
middle_of half T = T * column_of half + (half + 2)

-- from the top of the first of these rows of cells to the top of the row after them
abbrev pub rows_height : ℕ → ℕ
rows_height rows = 28 * rows

-- from the top of the picture to the line of the names in row i of the cells
abbrev pub line_of : ℕ → ℕ
line_of i = rows_height i + 93

-- from the top of the picture to the first line of the legend, which is below the cells
abbrev pub legend_line : ℕ → ℕ
legend_line rows = rows_height rows + 105

-- from the left of the picture to the account, which is at the right of the legend
abbrev pub account_left : ℕ → ℕ
account_left half = 2 * half + 228

-- THE WIDTH and THE HEIGHT of a picture with this many cycles and rows of cells.
abbrev pub width_of : (half cycles : ℕ) → ℕ
width_of half cycles = max (account_left half + 288) (cycles * column_of half + 116)

abbrev pub height_of : ℕ → ℕ
height_of rows = legend_line rows + 167
