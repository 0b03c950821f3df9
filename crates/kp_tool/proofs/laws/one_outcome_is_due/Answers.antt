use Rattle.kp_tool.proofs.Outcomes.{some_due, one_outcome, one_status}
use Rattle.kp_tool.proofs.laws.one_outcome_is_due.Goals as goal

pub returns : goal.returns
returns c = record { some = some_due; one = one_outcome; status = one_status }
