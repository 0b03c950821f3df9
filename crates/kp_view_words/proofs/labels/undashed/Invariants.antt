use Rattle.std.proofs.Common.{◌≡◌, ◌+◌, drop, map, string_bytes}
use Rattle.kp_view_words.specs.Words.{undashed}
use Rattle.kp_view_words.proofs.labels.undashed.Given as goal

abbrev pub invariant-loop-i : goal.invariant-loop-i
invariant-loop-i l = undashed (map string_bytes l.words) ≡ l.i + undashed (map string_bytes (drop l.i l.words))
