use Rattle.kp_stalls_text.proofs.Steps.{blocks_step}
use Rattle.kp_stalls_text.proofs.labels.labels_of.Goals as goal

pub loop-block-preserved : goal.loop-block-preserved
loop-block-preserved c =
    rw (c.in_ok-add_labels.ensures, c.as_slice.ensures) (blocks_step _ _ c.args.blocks.now c.loop-block.block-index _ c.loop-block-test.true c.block-item.is c.loop-block.invariant)
