use Rattle.std.proofs.Common.{◌∙◌, sym, arith}
use Rattle.kp_image.proofs.Loops.{laid_turn}
use Rattle.kp_image.proofs.state.lay.Goals as goal

pub loop-i-preserved : goal.loop-i-preserved
loop-i-preserved c = λ x. sym (laid_turn c.args.values.now c.loop-i.i c.args.address x c.loop-i.words _ c.loop-i-test.true (omega arith)) ∙ c.loop-i.invariant x
