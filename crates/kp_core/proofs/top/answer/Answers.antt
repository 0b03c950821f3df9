use Rattle.std.proofs.Common.{ap}
use Rattle.kp_core.{specs.Words.asked, specs.Answers.text_said, proofs.Outcomes.helped}
use Rattle.kp_core.proofs.top.answer.Goals as goal

pub returns-in-Help-clause-due : goal.returns-in-Help-clause-due
returns-in-Help-clause-due g c =
    let made = c.fixed-in-Help in
    helped (asked c.args.request.now) (g.S.Source.left c.args.source.now) made.result.status (text_said made.result.said) (ap asked c.in-Help.is) made.ensures.status made.ensures.text
