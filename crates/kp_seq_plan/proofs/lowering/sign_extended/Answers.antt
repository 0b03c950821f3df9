use Rattle.std.proofs.Common.{refl, arith, ◌+◌, ◌-◌, ◌/◌, ◌%◌, ◌^◌}
use Rattle.kp_seq_plan.proofs.Typing.{made, sext_gives}
use Rattle.kp_seq_plan.proofs.lowering.sign_extended.Goals as goal

pub returns : goal.returns
returns c = λ ws f n a.
    let narrow = c.mask-narrow.result in
    let more = (c.mask.result + (2 ^ 64 - narrow)) % 2 ^ 64 in
    made ws _ _ _ _ c.extended.result c.of_width.result c.extended.ensures c.of_width.ensures
    (sext_gives c.args.width c.args.a narrow c.mask.result (narrow / 2) more (omega arith) (omega arith) c.mask-narrow.ensures c.mask.ensures refl refl ws f n a)
