use Rattle.std.proofs.Common.{◌≡◌, ◌++◌, drop}
use Rattle.kp_machine.specs.Slots.{hints_of}
use Rattle.kp_synth_registers.specs.Keys.{hint_keys}
use Rattle.kp_synth_registers.proofs.keys.add_hints.Given as goal

abbrev pub invariant-loop-h : goal.invariant-loop-h
invariant-loop-h l = l.keys.items ++ hint_keys l.h (drop l.h (hints_of l.layout.decls)) ≡ l.fn.keys.items ++ hint_keys 0 (hints_of l.layout.decls)
