use Rattle.std.proofs.Common.{◌∙◌, arith}
use Rattle.kp_cycle.proofs.batches.take_batches.Goals as goal

pub more-preserved : goal.more-preserved
more-preserved c =
    let inv = c.more.invariant in
    let t = c.take_batch-end.ensures in
    (c.take_batch-end.auto.nodes ∙ inv.0, λ input m s. t.settled input m (inv.1 input m s), omega (arith, inv.2, t.forward), t.inside)
