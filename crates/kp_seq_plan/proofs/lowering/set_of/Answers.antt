use Rattle.std.proofs.Common.{refl}
use Rattle.kp_seq_plan.proofs.Replacing.{one_is}
use Rattle.kp_seq_plan.proofs.lowering.set_of.Goals as goal

pub returns-in-Same : goal.returns-in-Same
returns-in-Same c = one_is c.args.code.now c.in-Same.place c.in-Same.word _ c.in-Same.is c.if-word-lt64.true refl
