use Rattle.std.proofs.Common.{◌≡◌, ◌+◌, ◌-◌, ◌++◌, length, take}
use Rattle.kp_pipeline.specs.Rows.{bits}
use Rattle.kp_sched.specs.{Rows.bit_of, Lines.digits}
use Rattle.kp_timing.proofs.lines.put_digits.Given as goal

abbrev pub invariant-loop-k : goal.invariant-loop-k
invariant-loop-k l = record {
  room : length l.out ≡ 400;
  place : l.end ≡ l.at + l.k;
  text : take l.end l.out ++ digits (bits (bit_of l.word) (l.n - l.k) l.k) ≡ take l.at l.initial.out ++ digits (bits (bit_of l.word) l.n 0);
}
