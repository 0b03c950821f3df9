use Rattle.std.{proofs.Common.subst, proofs.Common.sym, specs.List.All}
use Rattle.kp_image.specs.Spans.{IsSpan}
use Rattle.kp_image.proofs.Patterns.{spans_right}
use Rattle.kp_image.proofs.stalls.StallPattern.of.Goals as goal

pub invariant_of-result : goal.invariant_of-result
invariant_of-result c = (c.requires.few, subst (All IsSpan) (sym c.in_ok-spans.ensures) (spans_right c.args.stages c.args.entries.now c.requires.few c.requires.right))
