use Rattle.std.proofs.Common.{◌≡◌, ◌≤◌, drop}
use Rattle.kp_paths.specs.Places.{widest_from}
use Rattle.kp_paths.proofs.labels.widest.Given as goal

abbrev pub invariant-loop-block : goal.invariant-loop-block
invariant-loop-block l = record {
  value : widest_from l.most (drop l.block-index l.blocks) ≡ widest_from l.from l.blocks;
  few : l.most ≤ 135;
}
