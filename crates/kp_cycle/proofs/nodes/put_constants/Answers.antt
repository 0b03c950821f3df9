use Rattle.std.proofs.Common.{◌≡◌, ◌<◌, ℕ, List, length, get_or, sym, ap, ◌∙◌, arith}
use Rattle.std.proofs.lemmas.List.{get_or_default}
use Rattle.kp_net.specs.{declared.node.Kind.TheVariants.Const, declared.node.Node.Node, Widths.no_node}
use Rattle.kp_cycle_plan.specs.Plans.{no_step}
use Rattle.kp_cycle.proofs.{Settling.fits_more, Stepping.target_is, Stepping.target_inside, Stepping.const_fits, Stepping.fixed_more, Stepping.widths_more}
use Rattle.kp_cycle.proofs.nodes.put_constants.Goals as goal

pub bounds-nodes-target : goal.bounds-nodes-target
bounds-nodes-target c =
    omega (arith, target_inside c.args.net.now c.args.heads c.args.steps.now c.loop-k.k c.requires.plan c.loop-k-test.true, ap length c.nodes.ensures.nodes)

pub set_node-requires : goal.set_node-requires
set_node-requires c =
    omega (arith, target_inside c.args.net.now c.args.heads c.args.steps.now c.loop-k.k c.requires.plan c.loop-k-test.true, c.loop-k.invariant.0.nodes)

pub loop-k-preserved : goal.loop-k-preserved
loop-k-preserved c =
    let net = c.args.net.now in
    let k = c.loop-k.k in
    let m = c.loop-k.memory in
    let inv = c.loop-k.invariant in
    let t : ℕ = (get_or c.args.steps.now k no_step).target in
    let v = c.in-Const.value in
    let inside = target_inside net c.args.heads c.args.steps.now k c.requires.plan c.loop-k-test.true in
    let there : t < length m.nodes = omega (arith, inside, inv.0.nodes) in
    let is : (get_or net.nodes t no_node).kind ≡ Const v =
    ap (λ (n : Node). n.kind) (sym (get_or_default net.nodes t c.index-nodes-target.result no_node inside) ∙ ap (λ (ns : List Node). get_or ns t c.index-nodes-target.result) (sym c.nodes.ensures.nodes)) ∙ c.in-Const.is in
    rw c.set_node.ensures (
      fits_more net m t v inv.0,
      widths_more net.nodes m.nodes t v there (const_fits net.nodes t v inv.0.right.right inside is) inv.1,
      fixed_more net c.args.heads c.args.steps.now k t v m.nodes c.requires.plan c.loop-k-test.true (sym (target_is net c.args.heads c.args.steps.now k c.requires.plan c.loop-k-test.true)) there is inv.2,
      inv.3,
      inv.4,
      inv.5,
    )
