use Rattle.std.proofs.Common.{None, arith}
use Rattle.std.proofs.lemmas.List.{ext_get_or}
use Rattle.kp_same.proofs.difference.first_difference.Goals as goal

pub returns-clause-none : goal.returns-clause-none
returns-clause-none c = λ _.
    ext_get_or None c.args.left.now c.args.right.now c.requires
    (λ u l. c.loop-target.invariant u (omega (arith, l, c.loop-target.auto.target-end, c.loop-target-test.false)))
