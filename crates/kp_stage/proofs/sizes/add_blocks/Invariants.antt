use Rattle.std.proofs.Common.{◌≡◌, ◌≤◌, drop}
use Rattle.kp_stage.specs.Sizes.{blocks_sized}
use Rattle.kp_stage.proofs.sizes.add_blocks.Given as goal

abbrev pub invariant-loop-block : goal.invariant-loop-block
invariant-loop-block l = ((blocks_sized l.decls l.total (drop l.block-index l.blocks)).found ≡ (blocks_sized l.decls 0 l.blocks).found) × (l.total ≤ 100000)
