use Rattle.std.proofs.Common.{◌≡◌, ◌<◌, ℕ, length, get_or}
use Rattle.kp_depth.specs.{Depths.IsRow, Depths.no_row, Ends.ends_of}
use Rattle.kp_depth.proofs.stages.depths_of.Given as goal

abbrev pub invariant-loop-k : goal.invariant-loop-k
invariant-loop-k l = (length l.rows.items ≡ l.k)
    × ((k : ℕ) → k < length l.rows.items → IsRow l.layout l.net l.inside (ends_of l.layout l.net l.inside) k (get_or l.rows.items k no_row))
