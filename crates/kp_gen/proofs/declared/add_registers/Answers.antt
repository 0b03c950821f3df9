use Rattle.std.proofs.Common.{◌∙◌}
use Rattle.kp_gen.{specs.Generated.register, proofs.Rounds.each_plain}
use Rattle.kp_gen.proofs.declared.add_registers.Goals as goal

pub loop-i-preserved : goal.loop-i-preserved
loop-i-preserved c =
    rw (c.in_ok-add.ensures _ c.register.ensures) (each_plain register c.loop-i.decls.items c.args.routes.now c.loop-i.i c.loop-i-test.true ∙ c.loop-i.invariant)
