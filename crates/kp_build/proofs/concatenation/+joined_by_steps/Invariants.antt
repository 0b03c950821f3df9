use Rattle.std.proofs.Common.{length}
use Rattle.kp_build.proofs.concatenation.+joined_by_steps.Given as goal

abbrev pub decreases-joined_by_steps : goal.decreases-joined_by_steps
decreases-joined_by_steps l = length l.parts.now
