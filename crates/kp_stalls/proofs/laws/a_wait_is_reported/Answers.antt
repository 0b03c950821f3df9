use Rattle.kp_stalls.proofs.Reporting.{record_wait}
use Rattle.kp_stalls.proofs.laws.a_wait_is_reported.Goals as goal

pub returns : goal.returns
returns c = record_wait
