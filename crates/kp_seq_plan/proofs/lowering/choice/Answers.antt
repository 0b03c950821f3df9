use Rattle.std.proofs.Common.{arith}
use Rattle.kp_seq_plan.proofs.Typing.{made, mux_gives}
use Rattle.kp_seq_plan.proofs.lowering.choice.Goals as goal

pub returns : goal.returns
returns c = λ ws t f g l n m x a b.
    made ws _ _ _ _ c.mux.result c.of_width.result c.mux.ensures c.of_width.ensures (mux_gives c.args.test c.args.a c.args.b (omega arith) (omega arith) ws t f g l n m x a b)
