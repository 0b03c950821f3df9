use Rattle.std.{proofs.Common.subst, proofs.Common.sym, specs.List.All}
use Rattle.kp_image.specs.Feeds.{FitsFeed}
use Rattle.kp_image.proofs.Feeding.{givens_fit}
use Rattle.kp_image.proofs.inputs.feed_for.Goals as goal

pub invariant_of-result : goal.invariant_of-result
invariant_of-result c =
    let fit = givens_fit c.args.entries.now c.args.name.now c.args.width c.requires.fits in
    (c.requires.positive, c.requires.at_most, subst (All (FitsFeed c.args.width)) (sym c.in_ok-givens.ensures) fit)
