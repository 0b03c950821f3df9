use Rattle.std.proofs.Common.{◌≡◌, ℕ, ◌<◌, List, ◌∷◌, length, get_or}
use Rattle.kp_pipeline.specs.Rows.{Row}
use Rattle.kp_sched.specs.Rows.{row_seen}
use Rattle.kp_stalls.specs.{declared.fate.Fate.TheVariants.Open, Cycles.fate_in}
use Rattle.kp_stalls.proofs.fate.fates_before.Given as goal

abbrev pub invariant-loop-k : goal.invariant-loop-k
invariant-loop-k l = record {
  length : length l.fates ≡ 12;
  fates : (rows : List Row) → ((j : ℕ) → j < l.n → get_or l.after j Open ≡ fate_in l.n rows j)
      → (j : ℕ) → j < l.k → get_or l.fates j Open ≡ fate_in l.n (row_seen l.n l.row ∷ rows) j;
}
