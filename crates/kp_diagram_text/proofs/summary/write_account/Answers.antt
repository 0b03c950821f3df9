use Rattle.std.{proofs.Common.append_assoc, specs.Prelude.codes}
use Rattle.kp_diagram_text.{specs.Losses.account_shown, specs.Text.losses_text, specs.Text.rate_text, proofs.InOrder.wrote_next}
use Rattle.kp_diagram_text.proofs.summary.write_account.Goals as goal

pub returns : goal.returns
returns g c =
    wrote_next _ _ _ _ _ _ _ _ _ _ _ c.write_retired.ensures
    (rw (append_assoc (rate_text c.args.count c.args.account.retired) (codes "\n") (losses_text (account_shown c.args.account))) at
    (wrote_next _ _ _ _ _ _ _ _ _ _ _ c.write_rate_line.ensures
    (wrote_next _ _ _ _ _ _ _ _ _ _ _ c.write_lost.ensures (wrote_next _ _ _ _ _ _ _ _ _ _ _ c.write_lost-2.ensures (wrote_next _ _ _ _ _ _ _ _ _ _ _ c.write_lost-3.ensures c.write_lost-4.ensures)))))
