-- Cycles in order.
use Rattle.std.specs.Prelude.{◌≡◌, ℕ, ◌<◌, List, [], ◌∷◌}
use Rattle.kp_base.specs.declared.row.Row.{Row}
use Rattle.kp_pipeline.specs.Pipeline.{Inputs}
use Rattle.kp_sched.specs.Rows.{bit_of}
use Rattle.kp_timing.specs.Timed.{Timed, IsCycle}

-- cycles under these stall words, and their rows
pub data Cycles : Timed → List ℕ → List Row → Timed → Type 0 where
  none : {t : Timed} → Cycles t [] [] t
  one_more : {t u v : Timed} {ext : ℕ} {row : Row} {exts : List ℕ} {rows : List Row}
      → IsCycle t ext row u → Cycles u exts rows v → Cycles t (ext ∷ exts) (row ∷ rows) v

-- these words stall the n stages as these inputs do
abbrev pub StallAlike : ℕ → List ℕ → List Inputs → Type 0
StallAlike n [] ins = ins ≡ []
StallAlike n (ext ∷ exts) [] = ⊥
StallAlike n (ext ∷ exts) (i ∷ ins) = ((k : ℕ) → k < n → bit_of ext k ≡ i.ext k) × StallAlike n exts ins
