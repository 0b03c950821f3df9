use Rattle.std.proofs.Common.{length, arith}
use Rattle.kp_cycle_plan.specs.Plans.{IsMarked, IsKnown}
use Rattle.kp_cycle_plan.proofs.Marking.{plan_is, marked_inside, known_at, roots_are}
use Rattle.kp_cycle_plan.proofs.order.plan.Goals as goal

pub steps_of-requires-clause-some : goal.steps_of-requires-clause-some
steps_of-requires-clause-some c =
    let net = c.args.net.now in
    let needed = c.in_ok-needed.ensures in
    let marks = c.in_ok-needed.needed.items in
    let full = net.parts.full.0 in
    let all = (rw (c.nodes.ensures.nodes, c.as_slice.ensures.value) at c.in_ok-order.ensures.all) in
    let more = (rw c.as_slice-2.ensures.value at c.in_ok-batched.ensures.all) in
    let l = marked_inside marks full needed.1.full in
    let b = known_at c.args.heads c.in_ok-batched.batched.items full c.requires.inside (more full (all full (omega (arith, l, needed.0)) needed.1.full)) in
    rw c.as_slice-3.ensures.value (omega (arith, b))

pub returns : goal.returns
returns c =
    let net = c.args.net.now in
    let needed = c.in_ok-needed.ensures in
    let marks = c.in_ok-needed.needed.items in
    let ts = c.in_ok-batched.batched.items in
    let all = (rw (c.nodes.ensures.nodes, c.as_slice.ensures.value) at c.in_ok-order.ensures.all) in
    let more = (rw c.as_slice-2.ensures.value at c.in_ok-batched.ensures.all) in
    let full = net.parts.full.0 in
    let l = marked_inside marks full needed.1.full in
    let b = known_at c.args.heads ts full c.requires.inside (more full (all full (omega (arith, l, needed.0)) needed.1.full)) in
    plan_is net c.args.heads ts c.in_ok-steps.steps.items
    (omega (arith, b))
    (rw (c.nodes-3.ensures.nodes, c.as_slice-3.ensures.value) at c.in_ok-steps.ensures)
    c.requires.leads
    (rw c.nodes-2.ensures.nodes at c.in_ok-batched.ensures.ordered)
    (roots_are net (IsMarked marks) (IsKnown c.args.heads ts (length ts)) (λ j m. let l = marked_inside marks j m in more j (all j (omega (arith, l, needed.0)) m)) needed.1)
