use Rattle.std.proofs.Common.{◌-◌, length}
use Rattle.kp_base.specs.inner.Writing.{WroteUpTo}
use Rattle.kp_stalls_text.specs.Text.{reads_text}
use Rattle.kp_stalls_text.proofs.sums.write_reads.Given as goal

abbrev pub invariant-loop-i : goal.invariant-loop-i
invariant-loop-i g l =
    let report = l.report in
    WroteUpTo g.K.Sink.held g.K.Sink.faults (reads_text report.labels report.lines 0 (length report.labels)) (reads_text report.labels report.lines l.i (length report.labels - l.i)) l.initial.out l.out
