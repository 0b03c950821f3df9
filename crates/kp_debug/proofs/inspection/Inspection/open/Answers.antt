use Rattle.kp_debug.proofs.Standing.{begins}
use Rattle.kp_debug.proofs.inspection.Inspection.open.Goals as goal

pub invariant_of-result : goal.invariant_of-result
invariant_of-result c = begins c.args.job.now.design.job c.args.net.now c.in_ok-session.session c.requires c.in_ok-session.ensures
