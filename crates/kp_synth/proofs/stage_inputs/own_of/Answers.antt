use Rattle.std.proofs.Common.{◌∙◌, sym}
use Rattle.kp_design.specs.Numbers.{target_at}
use Rattle.kp_synth.proofs.Entered.{register_means, file_means}
use Rattle.kp_synth.proofs.stage_inputs.own_of.Goals as goal

pub returns-then-is_register-clause-value : goal.returns-then-is_register-clause-value
returns-then-is_register-clause-value c =
    register_means c.args.layout.now c.args.pool.now c.args.t (target_at c.args.layout.now c.args.t).width c.kept.result c.requires.target (sym c.is_register.ensures ∙ c.if-is_register.true) c.kept.ensures.value

pub returns-else-is_register-clause-value : goal.returns-else-is_register-clause-value
returns-else-is_register-clause-value c =
    file_means c.args.layout.now c.args.pool.now c.args.t c.args.file c.requires.target (sym c.is_register.ensures ∙ c.if-is_register.false) c.requires.file
