use Rattle.std.proofs.Common.{◌∙◌, Err, ap, subst}
use Rattle.kp_lex.specs.Text.{AnswersOutcome}
use Rattle.kp_runner.proofs.Outcomes.{never_refused}
use Rattle.kp_runner.proofs.top.end_of.Goals as goal

pub unreachable-requires : goal.unreachable-requires
unreachable-requires c =
    never_refused c.args.text.now c.args._job.now.design.job c.in-Err-Rule.field-0-0 c.requires.judged
    (subst (AnswersOutcome c.args.text.now) (c.in-Err-Rule.is ∙ ap Err c.in-Err-Rule.field-0-is) c.lex.ensures)
