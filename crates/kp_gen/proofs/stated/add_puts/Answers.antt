use Rattle.std.proofs.Common.{◌∙◌, length}
use Rattle.kp_gen.{specs.Generated.put, proofs.Rounds.each_plain}
use Rattle.kp_gen.proofs.stated.add_puts.Goals as goal

pub loop-i-preserved : goal.loop-i-preserved
loop-i-preserved c =
    rw (c.in_ok-add.ensures _ c.put.ensures) (each_plain (put (length c.args.routes.now)) c.loop-i.stmts.items c.args.routes.now c.loop-i.i c.loop-i-test.true ∙ c.loop-i.invariant)
