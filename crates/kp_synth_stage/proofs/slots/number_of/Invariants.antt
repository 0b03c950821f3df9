use Rattle.std.proofs.Common.{◌≡◌, ◌+◌, drop}
use Rattle.kp_machine.specs.Slots.{number_of}
use Rattle.kp_synth_stage.proofs.slots.number_of.Given as goal

abbrev pub invariant-loop-i : goal.invariant-loop-i
invariant-loop-i l = l.i + number_of (drop l.i l.slots) l.name ≡ number_of l.slots l.name
