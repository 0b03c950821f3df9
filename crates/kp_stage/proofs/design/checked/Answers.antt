use Rattle.std.proofs.Common.{◌∙◌, Ok, ap, sym}
use Rattle.kp_base.specs.Check.{after}
use Rattle.kp_stage.{specs.Counts.summary_of, proofs.Answering.refused_first, proofs.Answering.numbers_left}
use Rattle.kp_stage.proofs.design.checked.Goals as goal

pub returns-in-Some : goal.returns-in-Some
returns-in-Some c = sym (ap (λ o. after o (Ok (summary_of c.args.job.now))) (refused_first c.args.job.now c.in-Some.finding (sym c.in_ok-finding.ensures ∙ c.in-Some.is)))

pub returns-in_ok-bodies-in-None : goal.returns-in_ok-bodies-in-None
returns-in_ok-bodies-in-None c = c.numbers.ensures ∙ sym (ap (λ o. after o (Ok (summary_of c.args.job.now))) (numbers_left c.args.job.now (sym c.in_ok-finding.ensures ∙ c.in-None.is)))
