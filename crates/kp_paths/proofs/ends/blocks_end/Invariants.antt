use Rattle.std.proofs.Common.{◌≡◌, ◌≤◌, drop}
use Rattle.kp_paths.specs.Places.{blocks_end}
use Rattle.kp_paths.proofs.ends.blocks_end.Given as goal

abbrev pub invariant-loop-k : goal.invariant-loop-k
invariant-loop-k l = record {
  value : blocks_end l.paths l.k l.top (drop l.k l.blocks) ≡ blocks_end l.paths 0 l.from l.blocks;
  few : l.top ≤ 60000;
}
