use Rattle.std.proofs.Common.{◌≡◌, ◌≤◌, length, drop, map}
use Rattle.kp_vcd.specs.{declared.dump.Dump.Dump, Reading.Next, Reading.at, Reading.these, inner.Meeting.gives_from}
use Rattle.kp_vcd.proofs.head.expect.Given as goal

abbrev pub invariant-loop-wanted : goal.invariant-loop-wanted
invariant-loop-wanted l = record {
  fewer : length l.words.words ≤ length l.fn.words.words;
  same : (n : Next) (d : Dump) → gives_from (at (these (map (λ g. g.now) l.given) n) d) l.fn.words
      ≡ gives_from (at (these (drop l.wanted-index (map (λ g. g.now) l.given)) n) d) l.words;
}
