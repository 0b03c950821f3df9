use Rattle.std.proofs.Common.{◌≡◌, drop}
use Rattle.kp_design.specs.Spans.{last_use_in}
use Rattle.kp_design.proofs.uses.last_use_in.Given as goal

abbrev pub invariant-loop-k : goal.invariant-loop-k
invariant-loop-k l = last_use_in l.name l.last l.k (drop l.k l.blocks) ≡ last_use_in l.name 0 0 l.blocks
