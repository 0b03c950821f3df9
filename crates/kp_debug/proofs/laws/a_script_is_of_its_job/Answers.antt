use Rattle.kp_debug.proofs.Scripts.{script_is}
use Rattle.kp_debug.proofs.laws.a_script_is_of_its_job.Goals as goal

pub returns : goal.returns
returns c job text from commands e = script_is job text from commands e
