use Rattle.std.proofs.Common.{◌∙◌, ◌+◌, ap, drop}
use Rattle.kp_ast.specs.declared.widths.Scope.TheVariants as scopes
use Rattle.kp_base.specs.Findings.{with_answers}
use Rattle.kp_base.proofs.Collecting.{step}
use Rattle.kp_width.specs.{Names.opened, Widths.after_stmts, Widths.stmt_answers, Widths.after_blocks, Widths.block_answers}
use Rattle.kp_width.proofs.Listed.{both, room_before}
use Rattle.kp_width.proofs.statements.note_blocks.Goals as goal

pub loop-k-preserved : goal.loop-k-preserved
loop-k-preserved c =
    let ds = c.args.decls.now in
    let bs = c.args.blocks.now in
    let k = c.loop-k.k in
    let b = c.index-blocks-k.result in
    let s = c.loop-k.names in
    let o = opened s (scopes.Stage k) in
    let n = c.loop-k.found in
    let m = c.note_block.new.found in
    let t = c.note_block.new.names in
    let rest = drop (k + 1) bs in
    let xs = stmt_answers ds o b.stmts in (
      both n m xs (λ u. block_answers ds (k + 1) u rest) t (after_stmts ds o b.stmts) c.in_ok-note_block.ensures.found c.in_ok-note_block.ensures.names
          ∙ step (λ ys. with_answers n (block_answers ds k s ys)) bs k b c.loop-k-test.true c.index-blocks-k.is
          ∙ c.loop-k.invariant.0,
      λ room.
          ap (λ u. after_blocks ds (k + 1) u rest) (c.in_ok-note_block.ensures.names room)
          ∙ step (λ ys. after_blocks ds k s ys) bs k b c.loop-k-test.true c.index-blocks-k.is
          ∙ c.loop-k.invariant.1 (room_before n m xs c.in_ok-note_block.ensures.found room),
    )
