use Rattle.kp_stalls_text.proofs.Steps.{stmts_step}
use Rattle.kp_stalls_text.proofs.labels.add_labels.Goals as goal

pub loop-stmt-preserved : goal.loop-stmt-preserved
loop-stmt-preserved c =
    rw c.in_ok-add_label.ensures (stmts_step _ _ c.args.stmts.now c.loop-stmt.stmt-index _ c.loop-stmt-test.true c.stmt-item.is c.loop-stmt.invariant)
