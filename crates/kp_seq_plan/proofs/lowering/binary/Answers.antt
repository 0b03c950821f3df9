use Rattle.std.proofs.Common.{sym, ◌∙◌, subst}
use Rattle.kp_seq_plan.proofs.Typing.{made, binary_gives}
use Rattle.kp_seq_plan.proofs.lowering.binary.Goals as goal

pub returns : goal.returns
returns c = λ ws f g n m a b.
    made ws _ _ _ _ c.applied-code.result c.of_width.result c.applied-code.ensures (rw c.binary_width.ensures at c.of_width.ensures)
    (binary_gives c.args.op c.args.a c.args.b c.mask-mask.result (sym c.is_meant.ensures ∙ c.if-not-is_meant.false) c.mask-mask.ensures ws f g n m a b)
