use Rattle.std.proofs.Common.{drop}
use Rattle.kp_base.specs.inner.Writing.{WroteUpTo}
use Rattle.kp_stalls_text.specs.Text.{lines_text}
use Rattle.kp_stalls_text.proofs.lines.write_lines.Given as goal

abbrev pub invariant-loop-line : goal.invariant-loop-line
invariant-loop-line g l =
    WroteUpTo g.K.Sink.held g.K.Sink.faults (lines_text l.report.names l.report.labels l.lines) (lines_text l.report.names l.report.labels (drop l.line-index l.lines)) l.initial.out l.out
