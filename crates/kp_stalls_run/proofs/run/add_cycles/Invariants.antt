use Rattle.std.proofs.Common.{◌≡◌, ℕ, ◌+◌, ◌-◌, ◌≤◌, ◌++◌, drop, take, length, get_or}
use Rattle.kp_machine.specs.Machine.{values_in}
use Rattle.kp_pipeline.specs.Rows.{counts}
use Rattle.kp_run.specs.Columns.{row_taken}
use Rattle.kp_sched.specs.{Monitors.HasSeen, Rows.bit_of, Rows.rows_seen}
use Rattle.kp_sites.specs.Sites.{sited}
use Rattle.kp_stalls.specs.{Occupants.report, Cycles.lines_from, Windows.Follows}
use Rattle.kp_stalls_run.specs.Runs.{settled}
use Rattle.kp_stalls_run.proofs.run.add_cycles.Given as goal

abbrev pub invariant-loop-cycle : goal.invariant-loop-cycle
invariant-loop-cycle l =
    let job = l.known.job.now.design.job in
    let n = job.stages.value in
    let rows = l.known.rows.now in
    let given : ℕ → ℕ → ℕ = λ i. values_in (row_taken l.known.samples.now.columns.items i) in
    let lines = lines_from (sited job) (λ T. bit_of (get_or l.known.words.now T 0)) (settled job given) (report job given) in
    record {
      stages : l.monitor.stages ≡ n;
      seen : HasSeen l.monitor (take l.cycle rows);
      job_is : l.window.machine.job ≡ job;
      sites : l.window.sites ≡ sited job;
      next : l.window.next ≤ counts n (rows_seen n rows) l.cycle (n - 1) + n;
      follows : Follows job given l.window;
      room : length l.room ≡ length l.known.samples.now.columns.items;
      same : l.lines.items ++ lines l.cycle (counts n (rows_seen n rows) l.cycle) (rows_seen n (drop l.cycle rows)) ≡ l.initial.lines.items ++ lines 0 (λ k. 0) (rows_seen n rows);
    }
