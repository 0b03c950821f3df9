use Rattle.std.proofs.Common.{◌≡◌, drop, true}
use Rattle.kp_stage.specs.Counts.{stmts_counted, is_within}
use Rattle.kp_stage.proofs.counts.add_stmts.Given as goal

abbrev pub invariant-loop-stmt : goal.invariant-loop-stmt
invariant-loop-stmt l = ((stmts_counted l.counts (drop l.stmt-index l.stmts)).found ≡ (stmts_counted l.initial.counts l.stmts).found) × (is_within l.counts ≡ true)
