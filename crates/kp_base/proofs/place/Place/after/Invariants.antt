use Rattle.std.proofs.Common.{◌≡◌, ◌+◌, ◌≤◌, ℕ, List, ◌++◌, take}
use Rattle.kp_base.specs.Place.{place_after}
use Rattle.kp_base.proofs.place.Place.after.Given as goal

abbrev pub invariant-loop-byte : goal.invariant-loop-byte
invariant-loop-byte l = record {
  place : (front : List ℕ) → l.initial.place ≡ place_after front → l.place ≡ place_after (front ++ take l.byte-index l.bytes);
  line : l.place.line ≤ l.initial.place.line + l.byte-index;
  column : l.place.col ≤ l.initial.place.col + l.byte-index;
}
