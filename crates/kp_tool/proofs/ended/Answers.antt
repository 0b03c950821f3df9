use Rattle.kp_report.specs.Texts.{refusal_line}
use Rattle.kp_tool.proofs.Ends.{refused_end}
use Rattle.kp_tool.proofs.ended.Goals as goal

pub returns-in-Err-Refused-clause-ends : goal.returns-in-Err-Refused-clause-ends
returns-in-Err-Refused-clause-ends g c =
    refused_end g.K.Sink.held g.K.Sink.faults _ _ 2 (refusal_line c.in-Err-Refused.refusal) _ _ _ _ (rw c.in-Err-Refused.field-0-is at c.in-Err-Refused.ensures.ends) c.refuse.ensures

pub returns-in-Err-Misread-clause-ends : goal.returns-in-Err-Misread-clause-ends
returns-in-Err-Misread-clause-ends g c =
    refused_end g.K.Sink.held g.K.Sink.faults _ _ 6 (refusal_line c.in-Err-Misread.refusal) _ _ _ _ (rw c.in-Err-Misread.field-0-is at c.in-Err-Misread.ensures.ends) c.refuse-in-Err-Misread.ensures
