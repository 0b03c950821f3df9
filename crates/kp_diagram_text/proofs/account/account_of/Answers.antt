use Rattle.std.proofs.Common.{◌∙◌, ◌-◌, ap, sym, arith, replicate}
use Rattle.std.proofs.lemmas.List.{get_or-replicate}
use Rattle.kp_diagram_text.specs.{Charts.ext_of, Charts.rows_of, Losses.loss_shown, Losses.losses_shown}
use Rattle.kp_diagram_text.proofs.Accounts.{account-first, onto-account}
use Rattle.kp_diagram_text.specs.declared.account.Loss.TheVariants as losses
use Rattle.kp_diagram_text.proofs.account.account_of.Goals as goal

pub returns-clause-account : goal.returns-clause-account
returns-clause-account c =
    let chart = c.args.chart.now in
    let start = losses_shown (replicate 12 losses.Filling) in
    c.account_after.ensures.account
    ∙ sym (onto-account (chart.stages - 1) (ext_of chart) 0 start (rows_of chart))
    ∙ account-first chart.stages (chart.stages - 1) (ext_of chart) chart.rows.now start
    (λ j b. ap loss_shown (get_or-replicate 12 j losses.Filling losses.Filling (omega (arith, b, c.requires.some, c.requires.few))))
