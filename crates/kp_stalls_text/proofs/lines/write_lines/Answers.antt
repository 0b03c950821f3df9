use Rattle.kp_base.proofs.Writing.{up_next}
use Rattle.kp_stalls_text.proofs.Steps.{lines_next}
use Rattle.kp_stalls_text.proofs.lines.write_lines.Goals as goal

pub loop-line-preserved : goal.loop-line-preserved
loop-line-preserved g c =
    let report = c.args.report.now in
    up_next _ _ _ _ _ _ _ (lines_next report.names report.labels c.args.lines.now c.loop-line.line-index _ c.loop-line-test.true c.line-item.is) c.loop-line.invariant c.write_line.ensures
