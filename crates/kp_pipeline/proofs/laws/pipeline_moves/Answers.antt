use Rattle.kp_pipeline.proofs.Progress.{moves}
use Rattle.kp_pipeline.proofs.laws.pipeline_moves.Goals as goal

pub returns : goal.returns
returns c = moves
