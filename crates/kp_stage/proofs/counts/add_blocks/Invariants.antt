use Rattle.std.proofs.Common.{◌≡◌, drop, true}
use Rattle.kp_stage.specs.Counts.{blocks_counted, is_within}
use Rattle.kp_stage.proofs.counts.add_blocks.Given as goal

abbrev pub invariant-loop-block : goal.invariant-loop-block
invariant-loop-block l = ((blocks_counted l.counts (drop l.block-index l.blocks)).found ≡ (blocks_counted l.initial.counts l.blocks).found) × (is_within l.counts ≡ true)
