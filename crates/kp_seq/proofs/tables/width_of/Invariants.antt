use Rattle.std.proofs.Common.{◌≡◌, drop}
use Rattle.kp_machine.specs.Slots.{width_of}
use Rattle.kp_seq.proofs.tables.width_of.Given as goal

abbrev pub invariant-loop-slot : goal.invariant-loop-slot
invariant-loop-slot l = width_of (drop l.slot-index l.slots) l.name ≡ width_of l.slots l.name
