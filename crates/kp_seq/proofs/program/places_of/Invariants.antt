use Rattle.std.proofs.Common.{◌≡◌, ◌++◌, drop}
use Rattle.kp_seq.specs.inner.Resolved.{places_of}
use Rattle.kp_seq.proofs.program.places_of.Given as goal

abbrev pub invariant-loop-slot : goal.invariant-loop-slot
invariant-loop-slot l = l.places.items ++ places_of l.keys (drop l.slot-index l.slots) ≡ places_of l.keys l.slots
