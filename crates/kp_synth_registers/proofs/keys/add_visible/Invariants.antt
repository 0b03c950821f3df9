use Rattle.std.proofs.Common.{◌≡◌, ◌++◌, drop}
use Rattle.kp_machine.specs.Slots.{targets_of}
use Rattle.kp_synth_registers.specs.Keys.{visible_keys}
use Rattle.kp_synth_registers.proofs.keys.add_visible.Given as goal

abbrev pub invariant-loop-t : goal.invariant-loop-t
invariant-loop-t l = l.keys.items ++ visible_keys l.t (drop l.t (targets_of l.layout.decls)) ≡ l.fn.keys.items ++ visible_keys 0 (targets_of l.layout.decls)
