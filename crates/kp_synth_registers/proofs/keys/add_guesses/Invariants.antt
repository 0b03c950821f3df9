use Rattle.std.proofs.Common.{◌≡◌, ◌++◌, drop}
use Rattle.kp_synth_registers.specs.Keys.{guess_keys}
use Rattle.kp_synth_registers.proofs.keys.add_guesses.Given as goal

abbrev pub invariant-loop-g : goal.invariant-loop-g
invariant-loop-g l = l.keys.items ++ guess_keys l.stage l.g (drop l.g l.slots) ≡ l.fn.keys.items ++ guess_keys l.stage 0 l.slots
