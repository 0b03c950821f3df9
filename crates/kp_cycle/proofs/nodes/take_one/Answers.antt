use Rattle.std.proofs.Common.{false, ◌+◌, sym, subst, arith, ◌∙◌}
use Rattle.kp_cycle.{specs.Steps.given, specs.inner.Settling.Settled, proofs.Stepping.target_inside, proofs.Stepping.step_word, proofs.Stepping.step_more}
use Rattle.kp_cycle_plan.specs.Storage.{Stored}
use Rattle.kp_cycle.proofs.nodes.take_one.Goals as goal

pub value_of-value-requires-clause-inside : goal.value_of-value-requires-clause-inside
value_of-value-requires-clause-inside c = target_inside c.args.net.now c.args._heads c.args.steps.now c.args.k c.requires.plan c.requires.inside

pub value_of-value-requires-clause-known : goal.value_of-value-requires-clause-known
value_of-value-requires-clause-known c = λ j l.
    c.requires.settled.widths j (omega (arith, target_inside c.args.net.now c.args._heads c.args.steps.now c.args.k c.requires.plan c.requires.inside))

pub set_node-requires : goal.set_node-requires
set_node-requires c = omega (arith, target_inside c.args.net.now c.args._heads c.args.steps.now c.args.k c.requires.plan c.requires.inside, c.requires.fits.nodes)

pub returns-clause-settled : goal.returns-clause-settled
returns-clause-settled c =
    let net = c.args.net.now in
    let steps = c.args.steps.now in
    let m = c.args.memory.now in
    let input = given c.args.ext false c.args.samples.now in
    let P : Stored → Type 0 = Settled net input c.args._heads steps (c.args.k + 1) in
    subst P (sym c.set_node.ensures)
    (step_more net c.args._heads steps c.args.k c.requires.plan c.requires.inside input m _ c.requires.fits.nodes c.requires.settled
    (c.value_of-value.ensures ∙ step_word net c.args._heads steps c.args.k c.requires.plan c.requires.inside input m c.requires.fits.right c.requires.settled))
