use Rattle.std.proofs.Common.{◌≡◌, ◌-◌, ◌++◌, length}
use Rattle.kp_machine.specs.Machine.{values_in}
use Rattle.kp_run.specs.Columns.{row_taken}
use Rattle.kp_stalls.specs.Cycles.{stages_from}
use Rattle.kp_stalls_run.specs.{Runs.settled, inner.Running.stage_now}
use Rattle.kp_stalls_run.proofs.stages.stages_at.Given as goal

abbrev pub invariant-loop-k : goal.invariant-loop-k
invariant-loop-k l =
    let n = l.monitor.stages in
    let shown = stage_now l.moment.word (settled l.job.design.job (λ j. values_in (row_taken l.samples.columns.items j)) l.moment.cycle) l.monitor.counts l.moment.fates.now l.moment.row in
    record {
      count : length l.stages.items ≡ l.k;
      same : l.stages.items ++ stages_from shown (n - l.k) l.k ≡ stages_from shown n 0;
    }
