use Rattle.std.proofs.Common.{◌≡◌, ◌≤◌, drop}
use Rattle.kp_stage.specs.Sizes.{stmts_sized}
use Rattle.kp_stage.proofs.sizes.add_stmts.Given as goal

abbrev pub invariant-loop-stmt : goal.invariant-loop-stmt
invariant-loop-stmt l = ((stmts_sized l.decls l.total (drop l.stmt-index l.stmts)).found ≡ (stmts_sized l.decls l.from l.stmts).found) × (l.total ≤ 100000)
