use Rattle.std.proofs.Common.{◌≡◌, true}
use Rattle.kp_machine.specs.Machine.{values_in}
use Rattle.kp_run.specs.Columns.{row_taken}
use Rattle.kp_stalls_run.specs.Runs.{settles_to}
use Rattle.kp_stalls_run.proofs.samples.is_settled.Given as goal

abbrev pub invariant-loop-x : goal.invariant-loop-x
invariant-loop-x l = settles_to l.job.design.job (λ j. values_in (row_taken l.samples.columns.items j)) l.cycle l.k l.i l.x ≡ true
