use Rattle.std.proofs.Common.{◌∙◌, ℕ, ◌+◌, ◌-◌, ap, refl, arith, option_map}
use Rattle.std.proofs.lemmas.List.{drop_all}
use Rattle.kp_diagram.specs.{Diagram.account_from, Claims.cycles_of}
use Rattle.kp_diagram_text.specs.{Charts.ext_of, Charts.rows_of, Losses.account_shown, Losses.loss_shown, Losses.losses_shown}
use Rattle.kp_diagram_text.proofs.Accounts.{account-end, account-next, cycles-more, onto-account}
use Rattle.kp_diagram_text.proofs.account.account_after.Goals as goal

pub loop-cycle-init : goal.loop-cycle-init
loop-cycle-init c =
    let chart = c.args.chart.now in
    record {
      length = c.requires.losses;
      sum = refl;
      so_far = onto-account (chart.stages - 1) (ext_of chart) 0 (losses_shown c.args.start) (rows_of chart);
    }

pub loop-cycle-preserved : goal.loop-cycle-preserved
loop-cycle-preserved c =
    let chart = c.args.chart.now in
    let last = chart.stages - 1 in
    let some = c.requires.drawable.some in
    record {
      length = c.losses_after-losses.ensures.length;
      sum = ap cycles_of c.add.ensures ∙ cycles-more (option_map loss_shown c.lost_to-lost.result) (account_shown c.loop-cycle.account) ∙ ap (λ (n : ℕ). n + 1) c.loop-cycle.invariant.sum;
      so_far = account-next last (ext_of chart) chart.rows.now c.loop-cycle.cycle _ _ chart.stages (losses_shown c.loop-cycle.losses)
          (losses_shown c.losses_after-losses.result) (option_map loss_shown c.lost_to-lost.result) (account_shown c.loop-cycle.account) _
          (account_from last (ext_of chart) 0 (losses_shown c.args.start) (rows_of chart)) (omega arith) refl c.loop-cycle-test.true c.lost_to-lost.ensures
          c.losses_after-losses.ensures.losses c.add.ensures c.loop-cycle.invariant.so_far;
    }

pub returns-clause-account : goal.returns-clause-account
returns-clause-account c =
    let chart = c.args.chart.now in
    account-end chart.stages (chart.stages - 1) (ext_of chart) chart.rows.now c.loop-cycle.cycle (losses_shown c.loop-cycle.losses)
    (account_shown c.loop-cycle.account) _ (drop_all c.loop-cycle.cycle chart.rows.now (omega arith)) c.loop-cycle.invariant.so_far
