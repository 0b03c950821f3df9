use Rattle.std.proofs.Common.{◌≡◌, length}
use Rattle.kp_sched.specs.Rows.{rows_seen}
use Rattle.kp_watch.specs.inner.Machines.{given, HaveRunFirst}
use Rattle.kp_watch.proofs.machines.advance.Given as goal

abbrev pub invariant-loop-k : goal.invariant-loop-k
invariant-loop-k l =
    (length l.room ≡ length l.columns)
    × HaveRunFirst l.job.design.job (given l.columns) (rows_seen l.job.design.job.stages.value l.rows) l.cycle l.k l.machines
