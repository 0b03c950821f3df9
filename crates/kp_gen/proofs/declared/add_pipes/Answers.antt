use Rattle.std.proofs.Common.{◌∙◌}
use Rattle.kp_gen.{specs.Generated.pipe, proofs.Rounds.each_plain}
use Rattle.kp_gen.proofs.declared.add_pipes.Goals as goal

pub loop-i-preserved : goal.loop-i-preserved
loop-i-preserved c =
    rw (c.in_ok-add.ensures _ c.pipe.ensures) (each_plain pipe c.loop-i.decls.items c.args.routes.now c.loop-i.i c.loop-i-test.true ∙ c.loop-i.invariant)
