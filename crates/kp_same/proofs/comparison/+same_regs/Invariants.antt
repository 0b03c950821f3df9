use Rattle.std.proofs.Common.{length}
use Rattle.kp_same.proofs.comparison.+same_regs.Given as goal

abbrev pub decreases-same_regs : goal.decreases-same_regs
decreases-same_regs l = length l.a.now
