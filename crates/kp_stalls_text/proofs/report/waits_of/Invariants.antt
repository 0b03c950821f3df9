use Rattle.std.proofs.Common.{take}
use Rattle.kp_stalls_text.specs.Reports.{AreWaits}
use Rattle.kp_stalls_text.proofs.report.waits_of.Given as goal

abbrev pub invariant-loop-line : goal.invariant-loop-line
invariant-loop-line l = AreWaits l.reads (take l.line-index l.lines) l.waits.items
