use Rattle.std.proofs.Common.{◌≡◌, ◌≤◌, drop}
use Rattle.kp_paths.specs.Places.{rows_end}
use Rattle.kp_paths.proofs.ends.rows_end.Given as goal

abbrev pub invariant-loop-stmt : goal.invariant-loop-stmt
invariant-loop-stmt l = record {
  value : rows_end l.paths l.k l.top (drop l.stmt-index l.stmts) ≡ rows_end l.paths l.k l.from l.stmts;
  few : l.top ≤ 60000;
}
