use Rattle.std.proofs.Common.{◌<◌, ℕ, get_or}
use Rattle.kp_until.specs.Untils.{Holds}
use Rattle.kp_until.specs.declared.until.Until.TheVariants.{Halt}
use Rattle.kp_until_run.specs.Ending.{states_in}
use Rattle.kp_until_run.proofs.hunt.found_at.Given as goal

abbrev pub invariant-loop-which : goal.invariant-loop-which
invariant-loop-which l = (m : ℕ) → m < l.which → Holds l._job.design.job (states_in l._job.design.job l._limit) l.retired (get_or l.untils m Halt) → ⊥
