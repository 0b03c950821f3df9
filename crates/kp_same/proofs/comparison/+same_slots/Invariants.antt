use Rattle.std.proofs.Common.{length}
use Rattle.kp_same.proofs.comparison.+same_slots.Given as goal

abbrev pub decreases-same_slots : goal.decreases-same_slots
decreases-same_slots l = length l.a.now
