use Rattle.kp_image.proofs.Given.{starts}
use Rattle.kp_view.proofs.depth.text_of.Goals as goal

pub synth_stages-requires-clause-suits : goal.synth_stages-requires-clause-suits
synth_stages-requires-clause-suits c = rw c.args.job.now.start (starts _ c.job-kept.ensures.sound.names c.args.job.now.unbroken)
