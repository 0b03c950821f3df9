use Rattle.std.proofs.Common.{length}
use Rattle.kp_runner.proofs.running.+lines_of.Given as goal

abbrev pub decreases-lines_of : goal.decreases-lines_of
decreases-lines_of l = length l.scripts.now
