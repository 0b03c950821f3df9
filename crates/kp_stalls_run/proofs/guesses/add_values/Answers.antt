use Rattle.std.proofs.Common.{◌∙◌, sym}
use Rattle.kp_image.proofs.Given.{starts}
use Rattle.kp_stalls_run.proofs.Values.{same_lines}
use Rattle.kp_stalls_run.proofs.guesses.add_values.Goals as goal

pub returns-then-not-name_guesses : goal.returns-then-not-name_guesses
returns-then-not-name_guesses c = same_lines c.args.job.now.design.job c.args.lines.now (sym c.name_guesses.ensures ∙ c.if-not-name_guesses.true)

pub synth-requires-clause-suits : goal.synth-requires-clause-suits
synth-requires-clause-suits c = rw c.args.job.now.start (starts _ c.job-kept.ensures.sound.names c.args.job.now.unbroken)
