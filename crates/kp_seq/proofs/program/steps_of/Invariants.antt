use Rattle.std.proofs.Common.{take}
use Rattle.kp_seq.specs.inner.Resolved.{DoesAll}
use Rattle.kp_seq.proofs.program.steps_of.Given as goal

abbrev pub invariant-loop-stmt : goal.invariant-loop-stmt
invariant-loop-stmt l = DoesAll l.tables l.entry (take l.stmt-index l.stmts) l.steps.items l.widths.items
