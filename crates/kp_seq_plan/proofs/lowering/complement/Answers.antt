use Rattle.kp_seq_plan.proofs.Typing.{made, not_gives}
use Rattle.kp_seq_plan.proofs.lowering.complement.Goals as goal

pub returns : goal.returns
returns c = λ ws f n a. made ws _ _ _ _ c.flipped.result c.of_width.result c.flipped.ensures c.of_width.ensures (not_gives c.args.a c.mask.result c.mask.ensures ws f n a)
