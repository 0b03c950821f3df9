use Rattle.std.proofs.Common.{◌∙◌}
use Rattle.kp_vcd.proofs.Meeting.{stops, change_on}
use Rattle.kp_vcd.proofs.body.read_changes.Goals as goal

pub returns-in_err-change-clause-meets : goal.returns-in_err-change-clause-meets
returns-in_err-change-clause-meets c d is =
    stops _ _ _ _ _ c.from_residual.ensures.1
    (c.loop-word.invariant.same d is
    ∙ change_on d c.args.time c.loop-word.changes.items c.loop-word.words c.next.new.self c.in-Some.word c.bytes.result.now c.time_of.result
    c.in-Some.ensures.some c.in-Some.ensures.end c.bytes.ensures c.time_of.ensures c.in_default-time_of.is)
    (c.in_err-change.ensures.meets d c.args.time c.loop-word.changes.items is)
