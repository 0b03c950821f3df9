use Rattle.std.proofs.Common.{◌<◌, ℕ}
use Rattle.kp_until.specs.Untils.{Repeats}
use Rattle.kp_until_run.specs.Ending.{states_in}
use Rattle.kp_until_run.proofs.hunt.repeats.Given as goal

abbrev pub invariant-loop-back : goal.invariant-loop-back
invariant-loop-back l = (p : ℕ) → p < l.back → Repeats l._job.design.job (states_in l._job.design.job l._limit) l.retired p → ⊥
