-- A WINDOW OF A DIAGRAM: the cells from a cycle on, in columns that are counted from there, and the lines that have such cells; and what the cycles of the
-- window were spent for.
use Rattle.std.specs.Prelude.{ℕ, ◌-◌, cond, leb, List, [], ◌∷◌}
use Rattle.kp_diagram.specs.Diagram.{Account, Cell, Fetch}

abbrev pub cells_after : ℕ → List Cell → List Cell
cells_after A [] = []
cells_after A (c ∷ cells) =
    cond (leb A c.cycle) (record { cycle = c.cycle - A; stage = c.stage; mark = c.mark } ∷ cells_after A cells) (cells_after A cells)

-- a line, unless it has no cells
abbrev pub with_cells : ℕ → List Cell → List Fetch → List Fetch
with_cells number [] rest = rest
with_cells number (c ∷ cells) rest = record { number = number; cells = c ∷ cells } ∷ rest

abbrev pub window : ℕ → List Fetch → List Fetch
window A [] = []
window A (f ∷ fetches) = with_cells f.number (cells_after A f.cells) (window A fetches)

-- the difference of two accounts
abbrev pub minus : Account → Account → Account
minus a b = record {
  retired = a.retired - b.retired;
  filling = a.filling - b.filling;
  hazards = a.hazards - b.hazards;
  guesses = a.guesses - b.guesses;
  outside = a.outside - b.outside;
}
