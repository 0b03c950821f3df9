use Rattle.kp_pipeline.proofs.Nearest.{back-greatest}
use Rattle.kp_pipeline.proofs.laws.back_is_the_greatest_mismatch.Goals as goal

pub returns-clause-found : goal.returns-clause-found
returns-clause-found c = back-greatest
