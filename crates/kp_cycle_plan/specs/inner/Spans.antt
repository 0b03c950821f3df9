-- The spans of a memory.
use Rattle.std.specs.Prelude.{ℕ, ◌+◌, ◌≡◌, ◌<◌, ◌≤◌, if◌then◌else◌, false, List, ◌∷◌, length, get_or, map, slice_range, Option, None, Some}
use Rattle.kp_region.specs.{declared.span.Span.Span, Words.Words, Words.span_words, Words.released, Spans.Apart, Spans.no_span}
use Rattle.kp_cycle_plan.specs.declared.slots.Slot.{Slot}
use Rattle.kp_net.specs.Netlist.{State}

-- the first span of a region
abbrev pub first_span : ℕ → Span
first_span n = record { start = 0; len = n }

-- one span is inside another
abbrev pub IsInside : Span → Span → Type 0
IsInside s t = (t.start ≤ s.start) × (s.start + s.len ≤ t.start + t.len)

-- the default for a slot that doesn't exist
abbrev pub no_slot : Slot
no_slot = record { span = no_span; is_saved = false }

-- the words of a span, in these words
abbrev pub part : List ℕ → Span → List ℕ
part ws s = slice_range ws s.start (s.start + s.len)

-- the contents of the spans of the registers and of the files
abbrev pub state_in : List ℕ → Span → List Span → State
state_in ws regs files = record { regs = part ws regs; files = map (part ws) files }

-- the contents of a slot: its words are those of a complete state
abbrev pub held : Words → Span → List Span → Slot → Option State
held r regs files slot = if slot.is_saved then Some (state_in (span_words r slot.span) regs files) else None

-- the spans of a memory: those of the registers and the files are disjoint, and inside one of the complete state, the first of the region; and
-- each slot has the size of the complete state, and is disjoint from it and the other slots
pub record Laid (r : Words) (regs : Span) (files : List Span) (whole : Span) (slots : List Slot) : Type 0 where
  pub apart : Apart r (regs ∷ files)
  pub first : whole.start ≡ 0
  pub inside : (k : ℕ) → k < length (regs ∷ files) → IsInside (get_or (regs ∷ files) k no_span) whole
  pub beside : Apart r (whole ∷ map (λ s. s.span) slots)
  pub sizes : (k : ℕ) → k < length slots → (get_or slots k no_slot).span.len ≡ whole.len

-- a region up to a span
abbrev pub front : Words → Span → Words
front r s = released r s.start

-- the span has the last words of a region, and all words are used
abbrev pub IsLast : Span → Words → Type 0
IsLast s r = (s.start + s.len ≡ r.used) × (r.used ≡ length r.words)
