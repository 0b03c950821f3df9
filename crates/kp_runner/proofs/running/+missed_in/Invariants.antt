use Rattle.std.proofs.Common.{length}
use Rattle.kp_runner.proofs.running.+missed_in.Given as goal

abbrev pub decreases-missed_in : goal.decreases-missed_in
decreases-missed_in l = length l.scripts.now
