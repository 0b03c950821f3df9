use Rattle.std.proofs.Common.{◌≡◌, ◌≤◌, drop}
use Rattle.kp_paths.specs.Places.{widest_in}
use Rattle.kp_paths.proofs.labels.widest_label.Given as goal

abbrev pub invariant-loop-stmt : goal.invariant-loop-stmt
invariant-loop-stmt l = record {
  value : widest_in l.most (drop l.stmt-index l.stmts) ≡ widest_in l.from l.stmts;
  few : l.most ≤ 135;
}
