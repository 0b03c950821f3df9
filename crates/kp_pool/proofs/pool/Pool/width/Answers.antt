use Rattle.std.proofs.Common.{ap}
use Rattle.kp_net.specs.{declared.node.Node.Node, Widths.wide}
use Rattle.kp_pool.proofs.pool.Pool.width.Goals as goal

pub returns-clause-width : goal.returns-clause-width
unfolding wide
returns-clause-width c = ap (λ (n : Node). n.width) c.at.ensures.node
