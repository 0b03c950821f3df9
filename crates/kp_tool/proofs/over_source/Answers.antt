use Rattle.std.proofs.Common.{ap, ◌∙◌, Err, refl, arith}
use Rattle.kp_tool.proofs.{Dues.too_long_is_due, Outside.over_input}
use Rattle.kp_tool.proofs.over_source.Goals as goal

pub returns-in-Ok : goal.returns-in-Ok
returns-in-Ok g c = λ words is.
    over_input g.K.Sink.held g.K.Sink.faults _ words c.args.command _ _ c.in-Ok.input.items is c.requires c.in-Ok.ensures.all c.in-Ok.ensures.end (omega (arith, c.in-Ok.input.ok.0, c.in-Ok.ensures.fits)) _ _ _
    (rw c.deref.ensures.value at c.carry_out.ensures)

pub returns-in-Err-TooLong : goal.returns-in-Err-TooLong
returns-in-Err-TooLong g c = λ words is.
    let (taken, consumed, count) = c.read_all.ensures.too_long (c.in-Err-TooLong.is ∙ ap Err c.in-Err-TooLong.field-0-is) in
    (refl, rw c.too_long.ensures (too_long_is_due words c.args.command _ _ taken is c.requires consumed count))
