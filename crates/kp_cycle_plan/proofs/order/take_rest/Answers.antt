use Rattle.kp_cycle_plan.proofs.Marking.{operands_taken}
use Rattle.kp_cycle_plan.proofs.order.take_rest.Goals as goal

pub take-requires-clause-operands : goal.take-requires-clause-operands
take-requires-clause-operands c =
    operands_taken c.args.nodes.now c.args.heads c.args.order.now c.loop-k.done c.loop-k.k c.requires.order c.loop-k-test.true c.loop-k.invariant.0.front c.loop-k.invariant.1
