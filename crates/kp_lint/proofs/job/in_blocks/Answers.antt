use Rattle.std.proofs.Common.{◌∙◌, ◌+◌}
use Rattle.kp_lint.specs.{Lints.of_block, Lints.of_blocks, inner.Noted.facts_in}
use Rattle.kp_lint.proofs.Passing.{here, more}
use Rattle.kp_lint.proofs.job.in_blocks.Goals as goal

pub loop-stage-preserved : goal.loop-stage-preserved
loop-stage-preserved c =
    let facts = facts_in c.args.facts.now in
    let job = c.args.facts.now.job.now in
    let k = c.loop-stage.stage in
    let items = c.as_slice-block-items.result.now in
    let same = c.as_slice-block-items.ensures in
    let within = c.loop-stage-test.true in
    more (of_block facts job k) (of_blocks facts job (k + 1)) c.loop-stage.notes c.in_block.new.notes items job.blocks k c.block-item.result same within c.block-item.is
    c.in_ok-in_block.ensures
    ∙ here (of_blocks facts job k) c.loop-stage.notes items job.blocks k c.block-item.result same within c.block-item.is ∙ c.loop-stage.invariant
