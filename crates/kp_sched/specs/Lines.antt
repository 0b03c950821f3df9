-- The line of a row: `cycle 3 full 110 ue 010 back -`.
use Rattle.std.specs.Prelude.{ℕ, zero, suc, ◌+◌, List, [], ◌∷◌, ◌++◌, Bool, codes, decimal, if◌then◌else◌}
use Rattle.kp_pipeline.specs.Rows.{Row}

-- bits as digits
abbrev pub digits : List Bool → List ℕ
digits [] = []
digits (b ∷ bs) = (if b then 49 else 48) ∷ digits bs

-- the stage that rolls back, which is one less than `back`; or `-`, if none does
abbrev pub stage_back : ℕ → List ℕ
stage_back zero = codes "-"
stage_back (suc r) = decimal r

-- The line contains the number of the cycle, the full bits and the update enables, stage 0 first, and the stage that rolls back.
unfoldable pub row_line : ℕ → Row → List ℕ
row_line cycle r =
    codes "cycle " ++ decimal cycle ++ codes " full " ++ digits r.full ++ codes " ue " ++ digits r.ue ++ codes " back "
    ++ stage_back r.back ++ codes "\n"

-- The lines of rows, the first of which has this number.
abbrev pub row_lines : ℕ → List Row → List ℕ
row_lines cycle [] = []
row_lines cycle (r ∷ rows) = row_line cycle r ++ row_lines (cycle + 1) rows
