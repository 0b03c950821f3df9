use Rattle.std.proofs.Common.{length, ap}
use Rattle.kp_diagram_text.{specs.Text.account_text, proofs.InOrder.wrote_as, proofs.InOrder.wrote_next}
use Rattle.kp_diagram_text.proofs.window.write_window_body.Goals as goal

pub returns : goal.returns
returns g c =
    wrote_next _ _ _ _ _ _ _ _ _ _ _ (wrote_next _ _ _ _ _ _ _ _ _ _ _ c.write_flight.ensures c.write_entering.ensures)
    (wrote_next _ _ _ _ _ _ _ _ _ _ _ c.write_legend.ensures
    (wrote_as _ _ _ _ _ _ _ _ (ap (account_text (length c.args.chart.now.rows.now)) c.account_after.ensures.account) c.write_account.ensures))
