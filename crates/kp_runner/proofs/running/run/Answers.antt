use Rattle.kp_image.proofs.Given.{starts}
use Rattle.kp_runner.proofs.running.run.Goals as goal

pub synth-requires-clause-suits : goal.synth-requires-clause-suits
synth-requires-clause-suits c = rw c.args.job.now.start (starts _ c.job-kept.ensures.sound.names c.args.job.now.unbroken)

pub open-requires : goal.open-requires
open-requires c = record { suits = rw c.args.job.now.start (starts _ c.job-kept.ensures.sound.names c.args.job.now.unbroken) }
