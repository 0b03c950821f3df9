use Rattle.std.proofs.Common.{Some}
use Rattle.kp_words.specs.declared.commands.Command.TheVariants.{Read}
use Rattle.kp_tool.{specs.Due.DueFor, proofs.Dues.denoted_is_due, proofs.Dues.misread_is_due, proofs.Ends.said, proofs.Ends.misread}
use Rattle.kp_tool.proofs.read.read.Goals as goal

pub returns-in-Ok : goal.returns-in-Ok
returns-in-Ok g c =
    said g.K.Sink.held g.K.Sink.faults (DueFor (Some Read) c.args.input.now) 0 _ (denoted_is_due c.args.input.now c.in-Ok.net c.requires c.in-Ok.ensures) _ _ _ c.finish.ensures

pub returns-in-Err : goal.returns-in-Err
returns-in-Err g c =
    misread g.K.Sink.held g.K.Sink.faults (DueFor (Some Read) c.args.input.now) c.args.input.now 0 (λ r broken. misread_is_due c.args.input.now r c.requires broken)
    c.args.sink.now c.in-Err.refused _ c.misread.ensures c.in-Err.ensures
