use Rattle.std.proofs.Common.{◌≡◌, ◌+◌, ◌≤◌, ℕ, List, length, vec_len}
use Rattle.kp_vcd.specs.{Reading.declaration, Reading.at, Reading.named, inner.Meeting.gives_from}
use Rattle.kp_vcd.proofs.head.read_signals.Given as goal

abbrev pub invariant-loop-signals : goal.invariant-loop-signals
invariant-loop-signals l = record {
  few : vec_len l.signals + length l.words.words ≤ length l.fn.words.words;
  same : (name : List ℕ) → gives_from (at declaration (named name)) l.fn.words
      ≡ gives_from (at declaration (record (named name) { signals = l.signals.items })) l.words;
}

abbrev pub decreases-loop-signals : goal.decreases-loop-signals
decreases-loop-signals l = length l.words.words
