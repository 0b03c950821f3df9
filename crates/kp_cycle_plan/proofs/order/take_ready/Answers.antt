use Rattle.kp_cycle_plan.proofs.Marking.{operands_inside}
use Rattle.kp_cycle_plan.proofs.order.take_ready.Goals as goal

pub take_if_ready-requires-clause-operands : goal.take_if_ready-requires-clause-operands
take_if_ready-requires-clause-operands c = operands_inside c.args.nodes.now c.args.heads c.args.order.now c.loop-k.k c.requires.order c.loop-k-test.true
