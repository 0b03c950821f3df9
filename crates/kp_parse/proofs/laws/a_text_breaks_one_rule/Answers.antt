use Rattle.kp_parse.proofs.Unique.{one_rule, no_rule}
use Rattle.kp_parse.proofs.laws.a_text_breaks_one_rule.Goals as goal

pub returns-clause-one : goal.returns-clause-one
returns-clause-one c = one_rule

pub returns-clause-none : goal.returns-clause-none
returns-clause-none c = no_rule
