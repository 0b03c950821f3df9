use Rattle.std.proofs.Common.{◌∙◌}
use Rattle.kp_run.proofs.Placing.{place_shown, place_there}
use Rattle.kp_run.proofs.finals.shown.Goals as goal

pub word-requires-clause-place : goal.word-requires-clause-place
word-requires-clause-place c = place_there c.args._design.now.job c.args.sim.now.net c.args._t c.args.place c.requires.of_job c.requires.target c.requires.place

pub returns : goal.returns
returns c = c.word.ensures ∙ place_shown c.args._design.now.job c.args.sim.now c.args._t c.args.place c.args.address c.requires.of_job c.requires.target c.requires.place
