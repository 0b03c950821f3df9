use Rattle.kp_seq.proofs.Runs.{is_run}
use Rattle.kp_seq.proofs.laws.steps_are_the_run.Goals as goal

pub returns : goal.returns
returns c = is_run
