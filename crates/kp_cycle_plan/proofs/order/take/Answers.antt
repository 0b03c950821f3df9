use Rattle.kp_cycle_plan.proofs.Marking.{taken_more}
use Rattle.kp_cycle_plan.proofs.order.take.Goals as goal

pub returns-clause-taken : goal.returns-clause-taken
returns-clause-taken c =
    rw c.in_ok-push.ensures.items (taken_more c.args.nodes.now c.args._heads c.args.done.now c.args.batched.now.items c.args.target c.requires.taken c.requires.inside c.requires.operands)
