use Rattle.std.proofs.{Common.length, Common.◌∙◌, Common.arith, lemmas.List.length-set}
use Rattle.kp_cycle.proofs.Stepping.{target_inside, step_ready, step_inside, step_number, step_more}
use Rattle.kp_cycle.proofs.batches.take_while.Goals as goal

pub batch-init : goal.batch-init
batch-init g c = (c.requires.count, λ input m s. s, omega arith, c.requires.inside)

pub value-requires : goal.value-requires
value-requires g c = step_ready c.args.net.now c.args._heads c.args.steps.now c.batch.k c.requires.plan c.batch.invariant.3 (length c.batch.nodes) c.requires.right c.batch.invariant.0

pub bounds-nodes-steps : goal.bounds-nodes-steps
bounds-nodes-steps g c = omega (arith, target_inside c.args.net.now c.args._heads c.args.steps.now c.batch.k c.requires.plan c.batch.invariant.3, c.batch.invariant.0)

pub take_if-second-requires-clause-inside : goal.take_if-second-requires-clause-inside
take_if-second-requires-clause-inside g c =
    step_inside c.args.net.now c.args._heads c.args.steps.now c.batch.k c.requires.plan c.batch.invariant.3 c.batch.nodes c.in-Some.value
    (λ plain. c.value.ensures plain c.in-Some.value c.in-Some.is)

pub batch-preserved : goal.batch-preserved
batch-preserved g c =
    let net = c.args.net.now in
    let steps = c.args.steps.now in
    let k = c.batch.k in
    let inv = c.batch.invariant in
    let second = c.take_if-second.ensures in
    let third = c.take_if-third.ensures in
    let last = c.take_if-k.ensures in (
      c.take_if-k.auto.nodes ∙ c.take_if-third.auto.nodes ∙ c.take_if-second.auto.nodes ∙ length-set c.batch.nodes _ _ ∙ inv.0,
      λ input m s. let old = record m { nodes = c.batch.nodes } in
          last.settled input m (third.settled input m (second.settled input m
          (step_more net c.args._heads steps k c.requires.plan inv.3 input old _ inv.0 (inv.1 input m s)
          (step_number net c.args._heads steps k c.requires.plan inv.3 input old _ c.requires.right (inv.1 input m s) (λ plain. c.value.ensures plain c.in-Some.value c.in-Some.is))))),
      omega (arith, inv.2, second.forward, third.forward, last.forward),
      last.inside,
    )
