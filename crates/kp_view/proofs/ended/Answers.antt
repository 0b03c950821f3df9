use Rattle.std.specs.Prelude.{⊤}
use Rattle.kp_base.specs.Causes.{Rose}
use Rattle.kp_view_words.specs.Asked.{asked, file_asked}
use Rattle.kp_view.{specs.Due.IsDue, proofs.Ends.complained, proofs.Ends.finished, proofs.Ends.stopped}
use Rattle.kp_view.proofs.ended.Goals as goal

pub returns-in-Ok-clause-ends : goal.returns-in-Ok-clause-ends
returns-in-Ok-clause-ends g c =
    finished g.K.Sink.held g.K.Sink.faults g.E.Sink.held g.E.Sink.faults (Rose (g.S.Source.faults c.args.source.now) (g.S.Source.faults c.carry_out.new.source))
    (IsDue (asked c.args.request.now) (g.S.Source.left c.args.source.now) (g.S.Source.left c.carry_out.new.source)) (file_asked (asked c.args.request.now))
    c.args.out.now c.carry_out.new.out c.args.err.now ⊤ tt c.in-Ok.ensures.ends

pub returns-in-Err-Complained-clause-ends : goal.returns-in-Err-Complained-clause-ends
returns-in-Err-Complained-clause-ends g c =
    complained g.K.Sink.held g.K.Sink.faults g.E.Sink.held g.E.Sink.faults _ _ c.in-Err-Complained.complaint _ _ _ _ _ _
    (rw c.in-Err-Complained.field-0-is at c.in-Err-Complained.ensures.ends) (rw c.file.ensures at c.complain.ensures)

pub returns-in-Err-Stopped-clause-ends : goal.returns-in-Err-Stopped-clause-ends
returns-in-Err-Stopped-clause-ends g c =
    stopped g.K.Sink.held g.K.Sink.faults g.E.Sink.held g.E.Sink.faults _ _ (file_asked (asked c.args.request.now)) _ _ _ ⊤ c.in-Err-Stopped.stop
    (rw c.in-Err-Stopped.field-0-is at c.in-Err-Stopped.ensures.ends)
