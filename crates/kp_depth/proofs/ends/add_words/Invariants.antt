use Rattle.std.proofs.Common.{◌≡◌, ◌++◌}
use Rattle.kp_depth.specs.Ends.{each_below, word_ends}
use Rattle.kp_depth.proofs.ends.add_words.Given as goal

abbrev pub invariant-loop-i : goal.invariant-loop-i
invariant-loop-i l = l.ends.items ≡ l.fn.ends.items ++ each_below (word_ends l.layout l.net) l.i
