use Rattle.std.proofs.Common.{arith}
use Rattle.kp_seq_plan.proofs.Typing.{made, join_gives}
use Rattle.kp_seq_plan.proofs.lowering.join.Goals as goal

pub returns : goal.returns
returns c = λ ws f g n m a b.
    made ws _ _ _ _ c.joined-code.result c.of_width.result c.joined-code.ensures c.of_width.ensures (join_gives c.args.high c.args.low (omega arith) (omega arith) ws f g n m a b)
