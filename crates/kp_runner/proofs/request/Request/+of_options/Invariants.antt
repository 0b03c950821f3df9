use Rattle.std.proofs.Common.{length}
use Rattle.kp_runner.proofs.request.Request.+of_options.Given as goal

abbrev pub decreases-of_options : goal.decreases-of_options
decreases-of_options l = length l.words.now
