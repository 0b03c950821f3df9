use Rattle.kp_base.proofs.Writing.{up_next}
use Rattle.kp_stalls_text.proofs.Steps.{reads_next}
use Rattle.kp_stalls_text.proofs.sums.write_reads.Goals as goal

pub loop-i-preserved : goal.loop-i-preserved
loop-i-preserved g c =
    let report = c.args.report.now in
    up_next _ _ _ _ _ _ _ (reads_next report.labels report.lines c.waits-waits.result.now c.loop-i.i c.waits-waits.ensures.waits c.loop-i-test.true) c.loop-i.invariant
    (rw c.labels-labels.ensures at c.write_read_sum.ensures)
