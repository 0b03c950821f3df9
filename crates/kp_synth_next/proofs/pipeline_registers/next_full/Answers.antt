use Rattle.std.proofs.Common.{◌∙◌}
use Rattle.kp_synth_registers.specs.Meaning.{IsTest}
use Rattle.kp_synth_next.proofs.Arms.{full_is}
use Rattle.kp_synth_next.proofs.pipeline_registers.next_full.Goals as goal

pub returns-clause-is_test : goal.returns-clause-is_test
unfolding IsTest
returns-clause-is_test c = λ x st i h.
    c.full_next.ensures.value x
    ∙ full_is c.args.layout.now st i c.args.stage c.args.next _ _ _ c.requires.next (c.requires.updates x st i h) (c.requires.says.stall x st i h) (c.requires.sweeps x st i h)
