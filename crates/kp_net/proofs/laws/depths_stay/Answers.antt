use Rattle.kp_net.proofs.Depths.{depth_kept}
use Rattle.kp_net.proofs.laws.depths_stay.Goals as goal

pub returns-clause-kept : goal.returns-clause-kept
returns-clause-kept c = depth_kept
