use Rattle.std.proofs.Common.{arith}
use Rattle.kp_net.proofs.Depths.{parts_no_deeper}
use Rattle.kp_net_gates.proofs.words.join.Goals as goal

pub returns-clause-depth : goal.returns-clause-depth
returns-clause-depth c = λ d h. record { bound = omega (arith, c.node.ensures.depth, parts_no_deeper c.args.pool.now.nodes d c.args.parts h) }
