use Rattle.std.proofs.Common.{◌≡◌, ◌≤◌, drop}
use Rattle.kp_paths.specs.Text.{longest_from}
use Rattle.kp_paths.proofs.rows.longest.Given as goal

abbrev pub invariant-loop-block : goal.invariant-loop-block
invariant-loop-block l = record {
  value : longest_from l.width (drop l.block-index l.blocks) ≡ longest_from l.from l.blocks;
  few : l.width ≤ 135;
}
