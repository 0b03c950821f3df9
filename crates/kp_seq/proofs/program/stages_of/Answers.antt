use Rattle.std.proofs.Common.{subst, sym, take, ◌∙◌, ap, ◌++◌, ◌∷◌, []}
use Rattle.kp_seq.{specs.inner.Resolved.AllDo, specs.inner.Resolved.DoesStage, proofs.Resolved.more_stages}
use Rattle.kp_seq.proofs.program.stages_of.Goals as goal

pub loop-block-init : goal.loop-block-init
loop-block-init c = c.new-stages.ensures.items

pub loop-block-preserved : goal.loop-block-preserved
loop-block-preserved c =
    let t = c.args.tables.now in
    let w = c.args.widths.now in
    subst (AllDo t w (take _ c.args.blocks.now)) (sym (c.in_ok-push.ensures.items ∙ ap (λ s. c.loop-block.stages.items ++ s ∷ []) c.new.ensures))
    (more_stages t w c.args.blocks.now c.loop-block.block-index c.block-item.result c.loop-block.stages.items c.in_ok-steps.steps.items c.loop-block-test.true c.block-item.is c.loop-block.invariant
    (subst (λ xs. DoesStage t w xs c.in_ok-steps.steps.items) c.as_slice.ensures c.in_ok-steps.ensures))
