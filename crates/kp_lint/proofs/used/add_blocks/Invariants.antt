use Rattle.std.{proofs.Common.◌≡◌, proofs.Common.drop, specs.List.flat_map}
use Rattle.kp_lint.specs.Tables.{value_of}
use Rattle.kp_lint.specs.{Used.names_in_block, inner.Noted.noted}
use Rattle.kp_lint.proofs.used.add_blocks.Given as goal

abbrev pub invariant-loop-block : goal.invariant-loop-block
invariant-loop-block l = noted (value_of l.used.entries) (flat_map names_in_block (drop l.block-index l.blocks)) ≡ noted (value_of l.initial.used.entries) (flat_map names_in_block l.blocks)
