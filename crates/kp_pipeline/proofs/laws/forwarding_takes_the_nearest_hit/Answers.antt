use Rattle.kp_pipeline.proofs.Nearest.{nearest-or-none}
use Rattle.kp_pipeline.proofs.laws.forwarding_takes_the_nearest_hit.Goals as goal

pub returns-clause-either : goal.returns-clause-either
returns-clause-either c = nearest-or-none
