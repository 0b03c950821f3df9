use Rattle.std.proofs.Common.{◌≡◌, ◌++◌, drop}
use Rattle.kp_machine.specs.Slots.{pipes_of}
use Rattle.kp_synth_registers.specs.Keys.{pipe_keys}
use Rattle.kp_synth_registers.proofs.keys.add_pipes.Given as goal

abbrev pub invariant-loop-x : goal.invariant-loop-x
invariant-loop-x l = l.keys.items ++ pipe_keys l.layout l.stage l.x (drop l.x (pipes_of l.layout.decls)) ≡ l.fn.keys.items ++ pipe_keys l.layout l.stage 0 (pipes_of l.layout.decls)
