use Rattle.std.proofs.Common.{ap, arith}
use Rattle.kp_timing.specs.Timed.{Timed}
use Rattle.kp_timing.proofs.timeline.Timeline.at.Goals as goal

pub number-requires : goal.number-requires
number-requires c =
    let k = c.self.invariant in
    let same = ap (λ (x : Timed). x.job.stages.value) c.self.view_is in
    record { in_range = omega (arith, k.few, same, c.requires, c.from.ensures); hold = k.holds }
