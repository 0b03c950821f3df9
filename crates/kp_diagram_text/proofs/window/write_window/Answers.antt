use Rattle.kp_diagram_text.proofs.{InOrder.ended_cause, InOrder.ended_text, InOrder.wrote_as, InOrder.wrote_next, Windows.whole_window}
use Rattle.kp_diagram_text.proofs.window.write_window.Goals as goal

pub returns-clause-text : goal.returns-clause-text
returns-clause-text g c =
    ended_text _ _ _ _ _ _ _ _ c.begin-writing.ensures
    (wrote_as _ _ _ _ _ _ _ _ (whole_window c.args.chart.now c.args.window.now c.width-width.result c.width-width.ensures.value)
    (wrote_next _ _ _ _ _ _ _ _ _ _ _ c.write_window_head.ensures c.write_window_body.ensures)) c.end.ensures

pub returns-clause-cause : goal.returns-clause-cause
returns-clause-cause g c =
    ended_cause _ _ _ _ _ _ _ _ c.begin-writing.ensures (wrote_next _ _ _ _ _ _ _ _ _ _ _ c.write_window_head.ensures c.write_window_body.ensures) c.end.ensures
