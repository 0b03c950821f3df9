use Rattle.std.proofs.Common.{length, ap}
use Rattle.kp_diagram_text.{specs.Text.account_text, proofs.InOrder.ended_cause, proofs.InOrder.ended_text, proofs.InOrder.wrote_as, proofs.InOrder.wrote_next, proofs.Labelling.labelled_whole}
use Rattle.kp_diagram_text.proofs.labelled.write_labelled.Goals as goal

pub returns-clause-text : goal.returns-clause-text
returns-clause-text g c = λ label labels.
    ended_text _ _ _ _ _ _ _ _ c.begin-writing.ensures
    (wrote_as _ _ _ _ _ _ _ _
    (labelled_whole c.args.chart.now c.args.window.now c.args.heading.now label c.args.lines.now c.width-width.result c.width-width.ensures.value c.requires.within labels c.requires.lines)
    (wrote_next _ _ _ _ _ _ _ _ _ _ _ c.write_labelled_head.ensures (wrote_next _ _ _ _ _ _ _ _ _ _ _ c.write_labelled_lines.ensures
    (wrote_next _ _ _ _ _ _ _ _ _ _ _ c.write_legend.ensures
    (wrote_as _ _ _ _ _ _ _ _ (ap (account_text (length c.args.chart.now.rows.now)) c.account_after-account.ensures.account) c.write_account.ensures))))) c.end.ensures

pub returns-clause-cause : goal.returns-clause-cause
returns-clause-cause g c =
    ended_cause _ _ _ _ _ _ _ _ c.begin-writing.ensures
    (wrote_next _ _ _ _ _ _ _ _ _ _ _ c.write_labelled_head.ensures (wrote_next _ _ _ _ _ _ _ _ _ _ _ c.write_labelled_lines.ensures
    (wrote_next _ _ _ _ _ _ _ _ _ _ _ c.write_legend.ensures c.write_account.ensures))) c.end.ensures
