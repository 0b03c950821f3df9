use Rattle.std.proofs.Common.{◌≡◌, take}
use Rattle.kp_stalls_text.specs.inner.Tallies.{tally_of}
use Rattle.kp_stalls_text.proofs.sums.tally_of.Given as goal

abbrev pub invariant-loop-line : goal.invariant-loop-line
invariant-loop-line l = l.tally ≡ tally_of (take l.line-index l.lines)
