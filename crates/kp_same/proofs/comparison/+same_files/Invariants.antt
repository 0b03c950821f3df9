use Rattle.std.proofs.Common.{length}
use Rattle.kp_same.proofs.comparison.+same_files.Given as goal

abbrev pub decreases-same_files : goal.decreases-same_files
decreases-same_files l = length l.a.now
