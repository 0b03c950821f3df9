use Rattle.std.proofs.Common.{◌≡◌, length}
use Rattle.kp_diagram_labels.specs.inner.Runs.{HasRun, given}
use Rattle.kp_diagram_labels.proofs.trace.Trace.advance.Given as goal

abbrev pub invariant-loop-i : goal.invariant-loop-i
invariant-loop-i l = HasRun l._job.design.job (given l.columns) l.i l.self.machine × (length l.room ≡ length l.columns)
