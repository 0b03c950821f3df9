-- A run, cycle by cycle.
use Rattle.std.specs.Prelude.{ℕ, suc, ◌+◌, ◌-◌, ◌<◌, ◌≤◌, List, Bool, nat_lt, get_or}
use Rattle.kp_base.specs.declared.row.Row as masks
use Rattle.kp_pipeline.specs.Rows.{Row, counts}
use Rattle.kp_sched.specs.Rows.{bit_of}
use Rattle.kp_stalls.specs.declared.{occupants.Stage.Stage, fate.Fate.Fate, fate.Fate.TheVariants.Open}

-- The numbers of the instructions in the stages stay close together: in each cycle that of the last of n stages is the least, and more than the greatest,
-- that of stage 0, less n; and it never becomes less.
pub record StaysClose (n : ℕ) (rows : List Row) : Type 0 where
  pub least : (T k : ℕ) → k < n → counts n rows T (n - 1) ≤ counts n rows T k
  pub greatest : (T k : ℕ) → k < n → counts n rows T k ≤ counts n rows T 0
  pub few : (T : ℕ) → counts n rows T 0 < counts n rows T (n - 1) + n
  pub more : (T : ℕ) → counts n rows T (n - 1) ≤ counts n rows (suc T) (n - 1)

-- What stage k shows in a cycle with this stall word and this row, with these numbers in the stages, and what becomes of their instructions.
abbrev pub stage_now : ℕ → (ℕ → ℕ → Bool) → List ℕ → List Fate → masks.Row → ℕ → Stage
stage_now word settled numbers fates r k = record {
  full = bit_of r.full k;
  moves = bit_of r.ue k;
  squashed = nat_lt k r.back;
  held = bit_of word k;
  fate = get_or fates k Open;
  settled = settled k (get_or numbers k 0);
  number = get_or numbers k 0;
}
