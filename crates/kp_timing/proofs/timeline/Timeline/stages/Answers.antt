use Rattle.std.proofs.Common.{arith}
use Rattle.kp_timing.proofs.Keeping.{few_stages, stages_are}
use Rattle.kp_timing.proofs.timeline.Timeline.stages.Goals as goal

pub returns-clause-some : goal.returns-clause-some
returns-clause-some c =
    let k = c.self.invariant in
    let low = (few_stages c.self.inside.design.now.job k.sites.rules).0 in
    let is = stages_are k.sites in
    omega (arith, low, is, c.stages.ensures)
