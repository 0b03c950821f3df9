use Rattle.std.{proofs.Common.◌≡◌, proofs.Common.◌+◌, proofs.Common.◌<◌, proofs.Common.◌≤◌, proofs.Common.ℕ, specs.Prelude.vec_capacity}
use Rattle.kp_machine.specs.Words.{HasWord}
use Rattle.kp_watch.specs.{Watching.own_due, inner.Beside.HaveCome}
use Rattle.kp_run.specs.Cycles.{own_trace}
use Rattle.kp_watch.proofs.watch.compare.Given as goal

abbrev pub invariant-loop-cycle : goal.invariant-loop-cycle
invariant-loop-cycle l =
    HaveCome l.job.design.job l.initial.both.sim.net l.tables l.cycle l.both
    × ((U t a : ℕ) → U < l.cycle + 1 → HasWord l.job.design.job t a
    → (own_trace l.job.design.job l.initial.both.sim.net l.count).visible U t a ≡ own_due l.job.design.job l.initial.both.sim.net l.count U t a)
    × (l.count ≤ vec_capacity l.both.rows)
