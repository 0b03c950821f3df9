use Rattle.std.proofs.Common.{refl, arith}
use Rattle.kp_seq_plan.proofs.Typing.{made, slice_gives}
use Rattle.kp_seq_plan.proofs.lowering.slice.Goals as goal

pub returns : goal.returns
returns c = λ ws f n a.
    made ws _ _ _ _ c.bits.result c.of_width.result c.bits.ensures c.of_width.ensures (slice_gives c.args.hi c.args.lo c.args.a _ c.mask.result (omega arith) (omega arith) refl c.mask.ensures ws f n a)
