use Rattle.std.proofs.{Common.◌*◌, Common.◌≤◌, Common.arith, Math.Nat.mul-le-mul_right}
use Rattle.kp_cycle_plan.proofs.slots.words_of_slots.Goals as goal

pub overflow_mul-result : goal.overflow_mul-result
overflow_mul-result c =
    let most : c.args.count * c.args.size ≤ 64 * c.args.size = mul-le-mul_right c.args.size c.requires.few in
    omega (arith, most, c.requires.small)

pub returns-clause-at_most : goal.returns-clause-at_most
returns-clause-at_most c = mul-le-mul_right c.args.size c.requires.few
