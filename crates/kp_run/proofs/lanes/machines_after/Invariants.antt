use Rattle.std.proofs.Common.{◌≡◌, length}
use Rattle.kp_machine.specs.Machine.{values_in}
use Rattle.kp_run.specs.{Columns.row_taken, inner.Lanes.HaveRunFrom, inner.Lanes.lane_count}
use Rattle.kp_run.proofs.lanes.machines_after.Given as goal

abbrev pub invariant-loop-k : goal.invariant-loop-k
invariant-loop-k l =
    HaveRunFrom l.job.design.job (λ i. values_in (row_taken l.columns i)) l.monitor.passed l.k l.machines.items
    × (l.ran ≡ lane_count l.job.design.job.stages.value l.monitor.passed l.k)
    × (length l.room ≡ length l.columns)
