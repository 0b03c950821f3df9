-- HOW SOON INSTRUCTIONS RETIRE, from the rows and stall words of a run of n stages.
use Rattle.std.specs.Prelude.{◌≡◌, ℕ, suc, ◌+◌, ◌-◌, ◌*◌, ◌<◌, ◌≤◌, Bool, true, List, [], ◌∷◌, length, take, drop, Option, Some, None}
use Rattle.kp_pipeline.specs.{Pipeline.Inputs, Rows.Row, Rows.bit, Rows.one_if, Rows.passed, Claims.stall_free_cycles}
use Rattle.kp_diagram.specs.Diagram.{next_place}

-- how many of the cycles from T to U have a stage that is stalled from outside
abbrev pub stalled_cycles : ℕ → List Inputs → (from to : ℕ) → ℕ
stalled_cycles n ins T U = (U - T) - (stall_free_cycles n ins U - stall_free_cycles n ins T)

abbrev pub count_full : List Bool → ℕ
count_full [] = 0
count_full (b ∷ bs) = one_if b + count_full bs

-- the older instructions in flight: the full stages above stage k
abbrev pub older : Row → ℕ → ℕ
older r k = count_full (drop (suc k) r.full)

-- Where an instruction is after these rows that was in a stage before them: in a stage, or in none, since it has left the last stage or was squashed.
abbrev pub place_after : ℕ → List Row → Option ℕ → Option ℕ
place_after n [] place = place
place_after n (r ∷ rows) None = None
place_after n (r ∷ rows) (Some k) = place_after n rows (next_place n r k)

-- THROUGHPUT AND LATENCY. In any n * k cycles and the stalled ones k instructions retire (`retire`). And an instruction that is in stage k in cycle T retires,
-- unless it is squashed, in at most n cycles for itself and for each older one in flight, and the stalled ones (`leave`).
pub record IsInTime (n : ℕ) (ins : List Inputs) (rows : List Row) : Type 0 where
  pub retire : (T U k : ℕ) → T ≤ U → U ≤ length rows → n * k + stalled_cycles n ins T U ≤ U - T
      → k ≤ passed rows (n - 1) U - passed rows (n - 1) T
  pub leave : (T U k : ℕ) (r : Row) (rest : List Row) → drop T rows ≡ r ∷ rest → k < n → bit r.full k ≡ true → T ≤ U → U ≤ length rows
      → n * suc (older r k) + stalled_cycles n ins T U ≤ U - T → place_after n (take (U - T) (r ∷ rest)) (Some k) ≡ None
