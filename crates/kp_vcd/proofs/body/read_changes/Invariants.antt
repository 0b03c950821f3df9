use Rattle.std.proofs.Common.{◌≡◌, ◌≤◌, length, []}
use Rattle.kp_vcd.specs.{declared.dump.Dump.Dump, Reading.change, Reading.at, inner.Meeting.gives_from}
use Rattle.kp_vcd.proofs.body.read_changes.Given as goal

abbrev pub invariant-loop-word : goal.invariant-loop-word
invariant-loop-word l = record {
  fewer : length l.words.words ≤ length l.fn.words.words;
  same : (d : Dump) → d.signals ≡ l.signals → gives_from (at (change l.time []) d) l.fn.words
      ≡ gives_from (at (change l.time l.changes.items) d) l.words;
}

abbrev pub decreases-loop-word : goal.decreases-loop-word
decreases-loop-word l = length l.words.words
