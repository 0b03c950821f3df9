use Rattle.std.proofs.Common.{Ok}
use Rattle.kp_core.proofs.inputs.of_input.Goals as goal

pub returns-in_ok-answer-in-Ok-clause-due : goal.returns-in_ok-answer-in-Ok-clause-due
returns-in_ok-answer-in-Ok-clause-due c =
    let head = c.in-Ok.head in
    (Ok (head.job.design.job, head.rest), c.in-Ok.ensures.answer, c.in_ok-answer-in-Ok.ensures.due)

pub returns-in_ok-explained-in-Err-Rule-clause-due : goal.returns-in_ok-explained-in-Err-Rule-clause-due
returns-in_ok-explained-in-Err-Rule-clause-due c = c.in_ok-explained-in-Err-Rule.ensures.due c.args.form
