use Rattle.std.proofs.Common.{arith}
use Rattle.kp_seq_plan.proofs.Typing.{zext_gives}
use Rattle.kp_seq_plan.proofs.lowering.zero_extended.Goals as goal

pub returns : goal.returns
returns c = zext_gives c.args.width c.args.a (omega arith) (omega arith)
