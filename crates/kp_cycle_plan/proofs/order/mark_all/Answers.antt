use Rattle.std.proofs.Common.{◌<◌, ℕ, ap, get_or, length, ◌∙◌, arith, true, false}
use Rattle.std.proofs.lemmas.List.{get_or-set_other, get_or_default}
use Rattle.kp_net.specs.declared.node.NodeId.{NodeId}
use Rattle.kp_cycle_plan.proofs.Marking.{grows_more, all_marked_more}
use Rattle.kp_cycle_plan.proofs.order.mark_all.Goals as goal

pub loop-k-preserved : goal.loop-k-preserved
loop-k-preserved c =
    let inv = c.loop-k.invariant in
    let none : NodeId = record { 0 = 0 } in
    let a : ℕ = (get_or c.args.nodes.now c.loop-k.k none).0 in
    let inside : a < length c.loop-k.marks = omega (arith, c.requires c.loop-k.k none c.loop-k-test.true, inv.0.count) in (
      grows_more c.args.marks.now c.loop-k.marks a inside inv.0,
      all_marked_more c.loop-k.marks c.args.nodes.now c.loop-k.k a inside (λ d. ap (λ (x : NodeId). x.0) (get_or_default c.args.nodes.now c.loop-k.k none d c.loop-k-test.true)) inv.1,
      λ i j all l. get_or-set_other c.loop-k.marks a j true false (λ z. omega (arith, z, l, all c.loop-k.k none c.loop-k-test.true)) ∙ inv.2 i j all l,
    )
