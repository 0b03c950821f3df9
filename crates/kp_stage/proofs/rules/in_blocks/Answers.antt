use Rattle.std.proofs.Common.{◌∙◌, ◌+◌, ap, sym, drop}
use Rattle.kp_base.specs.Findings.{with_answers}
use Rattle.kp_stage.specs.{Rules.ask_in_block, Rules.ask_blocks, inner.Tables.facts_in}
use Rattle.kp_base.proofs.Collecting.{append, step}
use Rattle.kp_stage.proofs.rules.in_blocks.Goals as goal

pub loop-k-preserved : goal.loop-k-preserved
loop-k-preserved c =
    let facts = facts_in c.args.facts.now in
    let rule = c.args.rule in
    let k = c.loop-k.k in
    let rest = ask_blocks facts rule (k + 1) (drop (k + 1) c.args.blocks.now) in
    ap (λ n. with_answers n rest) c.in_ok-in_block.ensures
    ∙ sym (append c.loop-k.notes (ask_in_block facts rule k c.index-blocks-k.result) rest)
    ∙ step (λ bs. with_answers c.loop-k.notes (ask_blocks facts rule k bs)) c.args.blocks.now k c.index-blocks-k.result c.loop-k-test.true c.index-blocks-k.is
    ∙ c.loop-k.invariant
