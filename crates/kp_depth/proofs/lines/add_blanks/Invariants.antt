use Rattle.std.proofs.Common.{◌≡◌, ◌++◌, replicate}
use Rattle.kp_depth.proofs.lines.add_blanks.Given as goal

abbrev pub invariant-loop-blanks : goal.invariant-loop-blanks
invariant-loop-blanks l = l.out.items ≡ l.fn.out.items ++ replicate l.blanks 32
