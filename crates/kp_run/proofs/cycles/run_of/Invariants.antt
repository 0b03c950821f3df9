use Rattle.std.{proofs.Common.◌≡◌, proofs.Common.◌≤◌, proofs.Common.length, specs.Prelude.vec_len, specs.Prelude.vec_capacity}
use Rattle.kp_run.specs.Cycles.{HasRows, after_cycles}
use Rattle.kp_run.proofs.cycles.run_of.Given as goal

abbrev pub invariant-loop-cycle : goal.invariant-loop-cycle
invariant-loop-cycle l =
    (l.sim ≡ after_cycles l.job.design.job l.net l.cycle)
    × HasRows l.job.design.job l.net l.cycle l.rows.items l.monitor
    × (vec_len l.rows ≡ l.cycle)
    × (l.count ≤ vec_capacity l.rows)
    × (length l.room ≡ length l.job.sections.inputs)
