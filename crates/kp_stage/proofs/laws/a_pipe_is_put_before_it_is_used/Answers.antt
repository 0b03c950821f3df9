use Rattle.kp_stage.proofs.Placed.{put_before}
use Rattle.kp_stage.proofs.laws.a_pipe_is_put_before_it_is_used.Goals as goal

pub returns : goal.returns
returns c = put_before
