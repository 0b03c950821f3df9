use Rattle.std.proofs.Common.{length, ap}
use Rattle.kp_diagram_text.{specs.Text.account_text, proofs.InOrder.wrote_as, proofs.InOrder.wrote_next}
use Rattle.kp_diagram_text.proofs.text.write_all_parts.Goals as goal

pub returns : goal.returns
returns g c =
    wrote_next _ _ _ _ _ _ _ _ _ _ _ (wrote_next _ _ _ _ _ _ _ _ _ _ _ c.write_title.ensures (wrote_next _ _ _ _ _ _ _ _ _ _ _ c.write_numbers.ensures c.put.ensures))
    (wrote_next _ _ _ _ _ _ _ _ _ _ _ c.write_lines.ensures (wrote_next _ _ _ _ _ _ _ _ _ _ _ c.write_legend.ensures (wrote_as _ _ _ _ _ _ _ _ (ap (account_text (length c.args.chart.now.rows.now)) c.account_of.ensures.account) c.write_account.ensures)))
