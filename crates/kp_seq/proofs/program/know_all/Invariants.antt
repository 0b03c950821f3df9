use Rattle.std.proofs.Common.{◌≡◌, drop}
use Rattle.kp_seq.specs.inner.Resolved.{with_widths}
use Rattle.kp_seq.proofs.program.know_all.Given as goal

abbrev pub invariant-loop-slot : goal.invariant-loop-slot
invariant-loop-slot l = with_widths l.keys l.widths.items (drop l.slot-index l.slots) ≡ with_widths l.keys l.initial.widths.items l.slots
