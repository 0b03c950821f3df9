use Rattle.kp_implements.proofs.Anew.{quiet_behind, reset_there}
use Rattle.kp_implements.proofs.resets.to_reset_leads_to_the_last_reset.Goals as goal

pub returns-clause-quiet : goal.returns-clause-quiet
returns-clause-quiet c = quiet_behind

pub returns-clause-raised : goal.returns-clause-raised
returns-clause-raised c = reset_there
