use Rattle.std.proofs.Common.{◌≡◌, drop}
use Rattle.kp_design.specs.Spans.{set_after}
use Rattle.kp_design.proofs.tables.set_after.Given as goal

abbrev pub invariant-loop-k : goal.invariant-loop-k
invariant-loop-k l = set_after l.name l.k (drop l.k l.blocks) ≡ set_after l.name 0 l.blocks
