use Rattle.std.proofs.Common.{◌∙◌}
use Rattle.kp_gen.{specs.Generated.read, proofs.Rounds.each_plain}
use Rattle.kp_gen.proofs.stated.add_reads.Goals as goal

pub loop-i-preserved : goal.loop-i-preserved
loop-i-preserved c =
    rw (c.in_ok-add.ensures _ c.read.ensures) (each_plain read c.loop-i.stmts.items c.args.routes.now c.loop-i.i c.loop-i-test.true ∙ c.loop-i.invariant)
