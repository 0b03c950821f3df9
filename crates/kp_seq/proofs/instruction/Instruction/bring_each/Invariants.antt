use Rattle.std.proofs.Common.{◌≡◌, drop}
use Rattle.kp_seq.specs.inner.Resolved.{with_carried}
use Rattle.kp_seq.proofs.instruction.Instruction.bring_each.Given as goal

abbrev pub invariant-loop-i : goal.invariant-loop-i
invariant-loop-i l = with_carried l.self l.i (drop l.i l.places) ≡ with_carried l.initial.self 0 l.places
