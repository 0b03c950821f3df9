use Rattle.std.proofs.Common.{ap, ◌∙◌, Err, refl, arith}
use Rattle.kp_base.specs.Causes.{Rose}
use Rattle.kp_view_words.specs.Asked.{task_seen}
use Rattle.kp_view.proofs.Outside.{over_input, too_long_is_due}
use Rattle.kp_view.proofs.over_source.Goals as goal

pub returns-in-Ok : goal.returns-in-Ok
returns-in-Ok g c =
    over_input g.K.Sink.held g.K.Sink.faults (Rose (g.S.Source.faults c.args.source.now) (g.S.Source.faults c.read_all.new.source)) (task_seen c.args.task.now)
    (g.S.Source.left c.args.source.now) (g.S.Source.left c.read_all.new.source) (task_seen c.args.task.now).file c.in-Ok.input.items
    c.in-Ok.ensures.all c.in-Ok.ensures.end (omega (arith, c.in-Ok.input.ok.0, c.in-Ok.ensures.fits)) _ _ _
    (rw c.deref.ensures.value at c.on_job.ensures)

pub returns-in-Err-TooLong : goal.returns-in-Err-TooLong
returns-in-Err-TooLong g c =
    let (taken, consumed, count) = c.read_all.ensures.too_long (c.in-Err-TooLong.is ∙ ap Err c.in-Err-TooLong.field-0-is) in
    (refl, rw c.too_long.ensures (too_long_is_due (task_seen c.args.task.now) _ _ taken consumed count))
