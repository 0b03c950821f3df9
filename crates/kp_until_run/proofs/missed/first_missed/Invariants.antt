use Rattle.std.proofs.Common.{◌<◌, ℕ, get_or}
use Rattle.kp_until.specs.Expected.{Meets}
use Rattle.kp_until_run.specs.Missed.{end_of, no_check}
use Rattle.kp_until_run.proofs.missed.first_missed.Given as goal

abbrev pub invariant-loop-k : goal.invariant-loop-k
invariant-loop-k l = (j : ℕ) → j < l.k → Meets l.layout l.all (end_of l.contents l.retired l.cycles) (get_or l.all j no_check)
