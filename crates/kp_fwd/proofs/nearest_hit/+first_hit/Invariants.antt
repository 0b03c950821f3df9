use Rattle.std.proofs.Common.{length}
use Rattle.kp_fwd.proofs.nearest_hit.+first_hit.Given as goal

abbrev pub decreases-first_hit : goal.decreases-first_hit
decreases-first_hit l = length l.rows.now
