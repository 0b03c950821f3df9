use Rattle.std.proofs.Common.{◌≡◌, ◌≤◌, drop}
use Rattle.kp_paths.specs.Text.{longest_in}
use Rattle.kp_paths.proofs.rows.longest_label.Given as goal

abbrev pub invariant-loop-stmt : goal.invariant-loop-stmt
invariant-loop-stmt l = record {
  value : longest_in l.width (drop l.stmt-index l.stmts) ≡ longest_in l.from l.stmts;
  few : l.width ≤ 135;
}
