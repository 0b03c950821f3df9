use Rattle.std.proofs.Common.{◌∙◌}
use Rattle.kp_debug.proofs.Places.{file_there, address_there, file_value}
use Rattle.kp_page.proofs.values.word_shown.Goals as goal

pub word-requires-clause-file : goal.word-requires-clause-file
word-requires-clause-file c = file_there _ _ _ c.args.number c.requires.of_job c.requires.file

pub word-requires-clause-address : goal.word-requires-clause-address
word-requires-clause-address c = address_there _ _ _ c.args.number c.requires.of_job c.requires.file c.args.address c.requires.there

pub returns : goal.returns
returns c = c.word.ensures ∙ file_value _ _ _ c.args.number c.requires.of_job c.requires.file c.args.sim.now.state c.args.address
