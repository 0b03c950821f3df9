use Rattle.std.proofs.Common.{◌∙◌, ◌++◌, List, ap}
use Rattle.kp_depth.specs.declared.ends.End.{End}
use Rattle.kp_depth.specs.Ends.{word_ends}
use Rattle.kp_depth.proofs.Listing.{each_more}
use Rattle.kp_depth.proofs.ends.add_words.Goals as goal

pub loop-i-preserved : goal.loop-i-preserved
loop-i-preserved c =
    let job = c.args.layout.now in
    let net = c.args.net.now in
    let i = c.loop-i.i in
    (rw (c.stages-stage.ensures.stages, c.nodes-nodes.ensures.nodes) at c.in_ok-add_word.ensures)
    ∙ ap (λ (es : List End). es ++ word_ends job net i) c.loop-i.invariant
    ∙ each_more (word_ends job net) c.args.ends.now.items i
