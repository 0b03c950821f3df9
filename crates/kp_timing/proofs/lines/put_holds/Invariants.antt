use Rattle.std.proofs.Common.{◌≡◌, ◌+◌, ◌-◌, ◌*◌, ◌≤◌, ◌++◌, None, length, take, get_or}
use Rattle.kp_timing.specs.Lines.{holds_text}
use Rattle.kp_timing.proofs.lines.put_holds.Given as goal

abbrev pub invariant-loop-k : goal.invariant-loop-k
invariant-loop-k l = record {
  room : length l.out ≡ 400;
  place : l.end ≤ l.at + 21 * l.k;
  text : take l.end l.out ++ holds_text (λ k. get_or l.hold k None) (l.n - l.k) l.k ≡ take l.at l.initial.out ++ holds_text (λ k. get_or l.hold k None) l.n 0;
}
