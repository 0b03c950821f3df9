use Rattle.std.proofs.Common.{length, arith}
use Rattle.kp_cycle.proofs.Stepping.{target_inside, step_ready, step_inside, step_number, step_more}
use Rattle.kp_cycle.proofs.batches.take_if.Goals as goal

pub value-requires : goal.value-requires
value-requires g c = step_ready c.args.net.now c.args._heads c.args.steps.now c.args.k c.requires.plan c.requires.inside (length c.args.nodes.now) c.requires.right c.requires.count

pub bounds-nodes-steps : goal.bounds-nodes-steps
bounds-nodes-steps g c = omega (arith, target_inside c.args.net.now c.args._heads c.args.steps.now c.args.k c.requires.plan c.requires.inside, c.requires.count)

pub returns-clause-inside : goal.returns-clause-inside
returns-clause-inside g c =
    step_inside c.args.net.now c.args._heads c.args.steps.now c.args.k c.requires.plan c.requires.inside c.args.nodes.now c.in-Some.value
    (λ plain. c.value.ensures plain c.in-Some.value c.in-Some.is)

pub returns-clause-settled : goal.returns-clause-settled
returns-clause-settled g c = λ input m s.
    let net = c.args.net.now in
    let steps = c.args.steps.now in
    let old = record m { nodes = c.args.nodes.now } in
    step_more net c.args._heads steps c.args.k c.requires.plan c.requires.inside input old _ c.requires.count s
    (step_number net c.args._heads steps c.args.k c.requires.plan c.requires.inside input old _ c.requires.right s (λ plain. c.value.ensures plain c.in-Some.value c.in-Some.is))
