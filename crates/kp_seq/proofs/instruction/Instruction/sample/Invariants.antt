use Rattle.std.proofs.Common.{◌≡◌, drop}
use Rattle.kp_seq.specs.inner.Resolved.{with_row_at}
use Rattle.kp_seq.proofs.instruction.Instruction.sample.Given as goal

abbrev pub invariant-loop-i : goal.invariant-loop-i
invariant-loop-i l = with_row_at l.self (drop l.i l.places) (drop l.i l.row) ≡ with_row_at l.initial.self l.places l.row
