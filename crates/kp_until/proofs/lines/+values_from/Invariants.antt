use Rattle.std.proofs.Common.{length}
use Rattle.kp_until.proofs.lines.+values_from.Given as goal

abbrev pub decreases-values_from : goal.decreases-values_from
decreases-values_from l = length l.values.now
