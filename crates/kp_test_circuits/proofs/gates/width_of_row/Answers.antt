use Rattle.std.proofs.{Common.◌<◌, Common.◌∙◌, Common.length, Common.arith, lemmas.List.Elements.All-more, lemmas.List.Sums.sum_by_more}
use Rattle.kp_net.specs.{declared.node.NodeId.NodeId, Widths.wide}
use Rattle.kp_test_circuits.proofs.gates.width_of_row.Goals as goal

pub loop-part-preserved : goal.loop-part-preserved
loop-part-preserved c =
    let d : NodeId = record { 0 = 0 } in
    let ns = c.args.pool.now.nodes in
    let more = sum_by_more (λ (a : NodeId). wide ns a.0) c.args.parts.now c.loop-part.part-index d c.loop-part-test.true in (
      omega (arith, c.loop-part.invariant.0),
      All-more (λ (a : NodeId). a.0 < length ns) c.args.parts.now c.loop-part.part-index d c.loop-part-test.true c.loop-part.invariant.1 (grind (arith, c.nodes.ensures)),
      more ∙ omega (arith, c.loop-part.invariant.2, c.width-width.ensures.width),
    )
