use Rattle.std.proofs.Common.{◌∙◌}
use Rattle.kp_debug.{specs.Sessions.state_there, proofs.Places.register_there, proofs.Places.register_value}
use Rattle.kp_debug.proofs.values.register_shown.Goals as goal

pub value-requires : goal.value-requires
value-requires c = register_there _ _ _ c.args.number c.requires.of_job c.requires.register

pub returns : goal.returns
returns c = c.value.ensures ∙ register_value _ _ _ c.args.number c.requires.of_job c.requires.register (state_there c.args.session.now)
