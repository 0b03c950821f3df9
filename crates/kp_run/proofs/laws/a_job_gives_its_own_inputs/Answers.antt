use Rattle.kp_run.proofs.Inputs.{seen_to, quiet_to}
use Rattle.kp_run.proofs.laws.a_job_gives_its_own_inputs.Goals as goal

pub returns-clause-seen : goal.returns-clause-seen
returns-clause-seen c n = seen_to c.args.job.now.design.job c.job-kept.ensures.sound.names c.args.job.now.unbroken n

pub returns-clause-quiet : goal.returns-clause-quiet
returns-clause-quiet c n = quiet_to c.args.job.now.design.job n
