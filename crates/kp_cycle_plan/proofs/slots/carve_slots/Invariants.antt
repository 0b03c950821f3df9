use Rattle.std.proofs.Common.{◌≡◌, ◌+◌, ◌*◌, ◌<◌, ℕ, List, ◌++◌, length, get_or, map, replicate, false}
use Rattle.kp_region.specs.{declared.span.Span.Span, Spans.Apart}
use Rattle.kp_cycle_plan.specs.inner.Spans.{no_slot}
use Rattle.kp_cycle_plan.proofs.slots.carve_slots.Given as goal

abbrev pub invariant-loop : goal.invariant-loop
invariant-loop l = record {
  count : length l.slots.items ≡ l.counter;
  sizes : (k : ℕ) → k < l.counter → (get_or l.slots.items k no_slot).span.len ≡ l.size;
  unsaved : map (λ s. s.is_saved) l.slots.items ≡ replicate l.counter false;
  apart : (spans : List Span) → Apart l.fn.region spans → Apart l.region (spans ++ map (λ s. s.span) l.slots.items);
  used : l.region.used ≡ l.fn.region.used + l.counter * l.size;
  words : length l.region.words ≡ length l.fn.region.words;
}
