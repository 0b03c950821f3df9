-- Disjoint spans of a region.
use Rattle.std.specs.Prelude.{ℕ, ◌^◌, ◌<◌, List, length, get_or}
use Rattle.kp_region.specs.{declared.span.Span.Span, Words.Words, Words.IsSound, Words.IsWithin, Words.IsDisjoint}

-- the default for a span that doesn't exist
abbrev pub no_span : Span
no_span = record { start = 0; len = 0 }

-- all spans end within the used words, which are fewer than 2^32, and no two of them overlap
pub record Apart (r : Words) (spans : List Span) : Type 0 where
  pub sound : IsSound r
  pub few : r.used < 2 ^ 32
  pub within : (k : ℕ) → k < length spans → IsWithin (get_or spans k no_span) r
  pub apart : (j k : ℕ) → j < k → k < length spans → IsDisjoint (get_or spans j no_span) (get_or spans k no_span)
