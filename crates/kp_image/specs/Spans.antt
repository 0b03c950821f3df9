-- The stall pattern as it is stored: each entry of the stalls section as a stage and its cycles.
use Rattle.std.specs.{Prelude.ℕ, Prelude.◌<◌, Prelude.List, Prelude.Bool, Prelude.◌&&◌, Prelude.◌==◌, List.list_any}
use Rattle.kp_stage.specs.Start.{bits_below}
use Rattle.kp_image.specs.{declared.stalls.Span.Span, Cycles.is_in}

-- it stalls this stage in this cycle
abbrev pub span_stalls : Span → ℕ → ℕ → Bool
span_stalls s k cycle = s.stage == k && is_in s.cycles cycle

abbrev pub some_stalls : List Span → ℕ → ℕ → Bool
some_stalls spans k cycle = list_any (λ s. span_stalls s k cycle) spans

-- a stall pattern: the number of stages, and the entries
pub record Pattern : Type 0 where
  pub stages : ℕ
  pub spans : List Span

-- the stall word of a cycle: bit k is 1 if some entry stalls stage k
abbrev pub word_in : Pattern → ℕ → ℕ
word_in p cycle = bits_below p.stages (λ k. some_stalls p.spans k cycle)

-- its stage is one of 12, and its step isn't 0
abbrev pub IsSpan : Span → Type 0
IsSpan s = (s.stage < 12) × (0 < s.cycles.step)
