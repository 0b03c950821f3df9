use Rattle.std.proofs.Common.{arith}
use Rattle.kp_diagram_labels.specs.inner.Runs.{given}
use Rattle.kp_diagram_labels.proofs.trace.Trace.rewind.Goals as goal

pub returns-clause-run : goal.returns-clause-run
returns-clause-run c = c.in_ok-start.ensures.run (given c.args._columns.now)

pub returns-clause-forward : goal.returns-clause-forward
returns-clause-forward c = let start = c.in_ok-start.ensures.start in omega (arith, start)
