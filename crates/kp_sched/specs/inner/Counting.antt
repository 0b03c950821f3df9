-- Counts from one row of masks to the next.
use Rattle.std.specs.Prelude.{ℕ, ◌-◌, nat_le, min, if◌then◌else◌}
use Rattle.kp_base.specs.declared.row.Row.{Row}
use Rattle.kp_pipeline.specs.Rows.{count_moved}
use Rattle.kp_sched.specs.Rows.{bit_of}

-- the count of stage k after a row of n stages, given the counts before it
abbrev pub count_next : ℕ → Row → (ℕ → ℕ) → ℕ → ℕ
count_next n r count k =
    if nat_le (min r.back n) k
    then (if bit_of r.ue k then count_moved count k else count k)
    else count (min r.back n - 1)
