use Rattle.std.{proofs.Common.◌≡◌, proofs.Common.length, specs.Prelude.take}
use Rattle.kp_run.specs.Columns.{row_taken}
use Rattle.kp_run.proofs.lanes.take.Given as goal

abbrev pub invariant-loop-x : goal.invariant-loop-x
invariant-loop-x l = (length l.room ≡ length l.columns) × (take l.x l.room ≡ take l.x (row_taken l.columns l.i))
