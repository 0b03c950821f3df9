-- What a run carries from cycle to cycle, so that the diagram of its later cycles is drawn without the rows of the earlier ones.
use Rattle.std.specs.Prelude.{ℕ, suc, Bool, true, false, List, [], ◌∷◌, ◌++◌, Option, Some, None}
use Rattle.kp_pipeline.specs.Rows.{Row, count_after}
use Rattle.kp_diagram.specs.Diagram.{Fetch, Loss, cells_from, fetches_next, losses_after, next_place}

-- An instruction that is in a stage.
pub record Placed : Type 0 where
  pub number : ℕ
  pub stage : ℕ

abbrev pub kept : ℕ → Option ℕ → List Placed → List Placed
kept number None rest = rest
kept number (Some k) rest = record { number = number; stage = k } ∷ rest

-- those that are still in a stage after a cycle
abbrev pub moved : ℕ → Row → List Placed → List Placed
moved n r [] = []
moved n r (p ∷ ps) = kept p.number (next_place n r p.stage) (moved n r ps)

abbrev pub entered : Bool → ℕ → List Placed
entered true number = record { number = number; stage = 0 } ∷ []
entered false number = []

-- and the one that enters stage 0 then, if any, with this number
abbrev pub advanced : ℕ → Row → ℕ → List Placed → List Placed
advanced n r number ps = moved n r ps ++ entered (fetches_next r) number

-- THE INSTRUCTIONS IN FLIGHT after rows, in the order in which they entered stage 0. `count` has the numbers in the stages before them.
abbrev pub flights : ℕ → (ℕ → ℕ) → List Placed → List Row → List Placed
flights n count ps [] = ps
flights n count ps (r ∷ rows) = flights n (count_after n r count) (advanced n r (count_after n r count 0) ps) rows

-- WHY EACH STAGE IS EMPTY after rows, if it is.
abbrev pub losses_from : (ℕ → ℕ → Bool) → ℕ → (ℕ → Loss) → List Row → ℕ → Loss
losses_from ext T loss [] = loss
losses_from ext T loss (r ∷ rows) = losses_from ext (suc T) (losses_after (ext T) r loss) rows

-- the lines of instructions in flight, from cycle T on
abbrev pub carried : ℕ → (ℕ → ℕ → Bool) → ℕ → List Row → List Placed → List Fetch
carried n ext T rows [] = []
carried n ext T rows (p ∷ ps) = record { number = p.number; cells = cells_from n ext T rows (Some p.stage) } ∷ carried n ext T rows ps

-- the lines of those that enter from cycle T on, by the number of the instruction in stage 0 in each cycle
abbrev pub entering : ℕ → (ℕ → ℕ → Bool) → ℕ → (ℕ → ℕ) → Bool → List Row → List Fetch
entering n ext T numbers enters [] = []
entering n ext T numbers true (r ∷ rows) =
    record { number = numbers T; cells = cells_from n ext T (r ∷ rows) (Some 0) } ∷ entering n ext (suc T) numbers (fetches_next r) rows
entering n ext T numbers false (r ∷ rows) = entering n ext (suc T) numbers (fetches_next r) rows
