use Rattle.std.proofs.Common.{sym}
use Rattle.kp_diagram_text.proofs.{Steps.text_is, InOrder.ended_text, InOrder.ended_cause}
use Rattle.kp_diagram_text.proofs.text.write_text.Goals as goal

pub returns-clause-text : goal.returns-clause-text
returns-clause-text g c =
    rw (sym (text_is c.args.chart.now c.width-width.result c.width-width.ensures.value)) (ended_text _ _ _ _ _ _ _ _ c.begin-writing.ensures c.write_all_parts.ensures c.end.ensures)

pub returns-clause-cause : goal.returns-clause-cause
returns-clause-cause g c = ended_cause _ _ _ _ _ _ _ _ c.begin-writing.ensures c.write_all_parts.ensures c.end.ensures
