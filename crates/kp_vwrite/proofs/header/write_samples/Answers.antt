use Rattle.kp_base.proofs.Writing.{each_more}
use Rattle.kp_vwrite.specs.Texts.{sample_text}
use Rattle.kp_vwrite.proofs.header.write_samples.Goals as goal

pub loop-port-preserved : goal.loop-port-preserved
loop-port-preserved g c =
    each_more sample_text c.args.ports.now c.loop-port.port-index _ _ _ _ c.loop-port-test.true c.port-item.is c.loop-port.invariant (rw c.bytes.ensures.bytes at c.write_ranged.ensures)
