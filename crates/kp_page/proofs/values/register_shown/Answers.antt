use Rattle.std.proofs.Common.{◌∙◌}
use Rattle.kp_debug.proofs.Places.{register_there, register_value}
use Rattle.kp_page.proofs.values.register_shown.Goals as goal

pub value-requires : goal.value-requires
value-requires c = register_there _ _ _ c.args.number c.requires.of_job c.requires.register

pub returns : goal.returns
returns c = c.value.ensures ∙ register_value _ _ _ c.args.number c.requires.of_job c.requires.register c.args.sim.now.state
