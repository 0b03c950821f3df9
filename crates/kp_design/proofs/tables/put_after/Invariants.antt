use Rattle.std.proofs.Common.{◌≡◌, drop}
use Rattle.kp_design.specs.Spans.{put_after}
use Rattle.kp_design.proofs.tables.put_after.Given as goal

abbrev pub invariant-loop-k : goal.invariant-loop-k
invariant-loop-k l = put_after l.name l.k (drop l.k l.blocks) ≡ put_after l.name 0 l.blocks
