use Rattle.kp_tool.proofs.Promised.{promised}
use Rattle.kp_tool.proofs.laws.what_is_promised_follows.Goals as goal

pub returns : goal.returns
returns c = promised c.the_dump_of_a_job_is_read_back.ensures.read
