use Rattle.std.proofs.Common.{◌∙◌, Some, ap, sym}
use Rattle.kp_base.specs.Refusal.{e_rule}
use Rattle.kp_stage.proofs.Answering.{accepts, refuses}
use Rattle.kp_stage.proofs.design.examine.Goals as goal

pub returns-in-Ok : goal.returns-in-Ok
returns-in-Ok c = accepts c.args.job.now c.in-Ok.summary (sym c.in-Ok.is ∙ c.in_ok-summary.ensures)

pub returns-in-Err : goal.returns-in-Err
returns-in-Err c =
    refuses c.args.job.now c.in-Err.finding (sym c.in-Err.is ∙ c.in_ok-summary.ensures)
    ∙ ap Some (sym (c.e.ensures ∙ ap (λ n. e_rule n c.in-Err.finding.place) c.rule.ensures))
