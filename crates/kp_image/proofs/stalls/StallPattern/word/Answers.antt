use Rattle.std.proofs.Common.{◌∙◌, arith}
use Rattle.kp_image.specs.Spans.{some_stalls}
use Rattle.kp_image.proofs.Loops.{word_same}
use Rattle.kp_image.proofs.stalls.StallPattern.word.Goals as goal

pub returns : goal.returns
returns c =
    let right = rw c.as_slice.ensures.value at c.stalled_stages-stalled.ensures in
    rw (← c.self.view_is)
    (c.word_of.ensures ∙ word_same c.stalled_stages-stalled.result (λ k. some_stalls c.self.inside.spans.items k c.args.cycle) c.from.result c.self.inside.stages c.from.ensures c.self.invariant.0 (omega arith) right)
