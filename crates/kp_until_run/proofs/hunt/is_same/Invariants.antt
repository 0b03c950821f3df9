use Rattle.std.proofs.Common.{◌≡◌, ◌-◌, ◌<◌, ℕ}
use Rattle.kp_machine.specs.Words.{HasWord}
use Rattle.kp_until_run.specs.Ending.{states_in}
use Rattle.kp_until_run.proofs.hunt.is_same.Given as goal

abbrev pub invariant-loop-t : goal.invariant-loop-t
invariant-loop-t l = (u a : ℕ) → u < l.t → HasWord l._job.design.job u a
    → states_in l._job.design.job l._limit (l.retired - l.back) u a ≡ states_in l._job.design.job l._limit l.retired u a
