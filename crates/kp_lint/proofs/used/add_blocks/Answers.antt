use Rattle.std.{proofs.Common.◌∙◌, proofs.Common.ap, specs.List.flat_map}
use Rattle.kp_lint.specs.{Tables.value_of, Used.names_in_block, Used.names_in_stmt, inner.Noted.noted}
use Rattle.kp_lint.proofs.Noting.{more}
use Rattle.kp_lint.proofs.used.add_blocks.Goals as goal

pub loop-block-preserved : goal.loop-block-preserved
loop-block-preserved c =
    let before = value_of c.loop-block.used.entries in
    more names_in_block before (value_of c.add_stmts.new.used.entries) c.args.blocks.now c.loop-block.block-index c.block-item.result c.loop-block-test.true c.block-item.is
    (c.in_ok-add_stmts.ensures ∙ ap (λ ss. noted before (flat_map names_in_stmt ss)) c.as_slice.ensures)
    ∙ c.loop-block.invariant
