use Rattle.std.proofs.Common.{◌∙◌}
use Rattle.kp_machine.specs.Machine.{machine_of}
use Rattle.kp_synth_registers.specs.Meaning.{IsTest}
use Rattle.kp_synth_next.proofs.Bits.{updates}
use Rattle.kp_synth_next.proofs.rollback.update_in.Goals as goal

pub returns-clause-is_test : goal.returns-clause-is_test
unfolding IsTest
returns-clause-is_test c = λ x st i h.
    let k = c.full_in-full.ensures.grown.kept in
    c.update_of.ensures.value x
    ∙ updates (machine_of c.args.layout.now) st i c.args.stage _ _ _
    (c.full_in-full.ensures.is_test x st i h)
    (k.tests x c.args.out.now.stall.0 c.requires.says.stall_wire.inside ∙ c.requires.says.stall x st i h)
    (k.tests x c.args.swept.0 c.requires.swept.inside ∙ c.requires.is_test x st i h)
