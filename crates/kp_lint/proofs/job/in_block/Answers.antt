use Rattle.std.proofs.Common.{◌∙◌, ◌+◌}
use Rattle.kp_lint.specs.{Lints.of_stmt, Lints.of_stmts, inner.Noted.facts_in, inner.Noted.has}
use Rattle.kp_lint.proofs.Passing.{here, more}
use Rattle.kp_lint.proofs.job.in_block.Goals as goal

pub loop-index-preserved : goal.loop-index-preserved
loop-index-preserved c =
    let facts = facts_in c.args.facts.now in
    let job = c.args.facts.now.job.now in
    let used = has c.in_ok-used.used.entries in
    let k = c.args.stage in
    let j = c.loop-index.index in
    let stmts = c.args.block.now.stmts in
    let items = c.as_slice-stmt-items.result.now in
    let same = c.as_slice-stmt-items.ensures in
    let within = c.loop-index-test.true in
    more (of_stmt facts job used k j) (of_stmts facts job used k (j + 1)) c.loop-index.notes c.in_stmt.new.notes items stmts j c.stmt-item.result same within c.stmt-item.is
    c.in_ok-in_stmt.ensures
    ∙ here (of_stmts facts job used k j) c.loop-index.notes items stmts j c.stmt-item.result same within c.stmt-item.is ∙ c.loop-index.invariant
