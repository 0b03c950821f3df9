-- What a monitor stores about its rows.
use Rattle.std.specs.Prelude.{◌≡◌, ℕ, ◌<◌, ◌≤◌, List, length, get_or}
use Rattle.kp_base.specs.declared.row.Row.{Row}
use Rattle.kp_pipeline.specs.Rows.{counts, passed}
use Rattle.kp_sched.specs.Rows.{rows_seen}

-- The number of stages, the number of rows so far, and by stage the number of its instruction and of the instructions that have passed it.
pub record Kept : Type 0 where
  pub stages : ℕ
  pub cycles : ℕ
  pub counts : List ℕ
  pub passed : List ℕ

-- There is a number for each of up to 12 stages, and none is greater than the number of rows.
pub record IsKept (m : Kept) : Type 0 where
  pub some : 2 ≤ m.stages
  pub few : m.stages ≤ 12
  pub counts : length m.counts ≡ 12
  pub passed : length m.passed ≡ 12
  pub counts_bound : (k : ℕ) → k < 12 → get_or m.counts k 0 ≤ m.cycles
  pub passed_bound : (k : ℕ) → k < 12 → get_or m.passed k 0 ≤ m.cycles

-- These are the rows of the monitor: it stores their number, the counts of the scheduling function over them, and how
-- many of them update each stage.
pub record HasSeen (m : Kept) (rows : List Row) : Type 0 where
  pub cycles : m.cycles ≡ length rows
  pub counts : (k : ℕ) → k < m.stages → get_or m.counts k 0 ≡ counts m.stages (rows_seen m.stages rows) (length rows) k
  pub passed : (k : ℕ) → k < m.stages → get_or m.passed k 0 ≡ passed (rows_seen m.stages rows) k (length rows)
