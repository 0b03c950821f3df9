use Rattle.std.proofs.Common.{◌≡◌, ◌+◌, ◌++◌, length, take}
use Rattle.kp_timing.proofs.lines.put.Given as goal

abbrev pub invariant-loop-i : goal.invariant-loop-i
invariant-loop-i l = record {
  room : length l.out ≡ 400;
  text : take (l.at + l.i) l.out ≡ take l.at l.initial.out ++ take l.i l.piece;
}
