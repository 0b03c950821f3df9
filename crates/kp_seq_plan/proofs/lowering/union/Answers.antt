use Rattle.kp_seq_plan.proofs.Replacing.{union_at}
use Rattle.kp_seq_plan.proofs.lowering.union.Goals as goal

pub returns-in-Or-clause-set : goal.returns-in-Or-clause-set
returns-in-Or-clause-set c = λ width mask.
    union_at c.args.op c.args.a.now c.args.b.now c.in_ok-place.place c.in_ok-other.other c.in_ok-place.left c.in_ok-other.right width mask
    c.in-Or.is c.if-place-other.true c.in_ok-place.ensures c.in_ok-other.ensures
