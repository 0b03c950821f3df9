use Rattle.std.proofs.Common.{◌≡◌, ◌-◌, ◌++◌}
use Rattle.kp_synth_registers.specs.Keys.{stages_keys}
use Rattle.kp_synth_registers.proofs.keys.add_stages.Given as goal

abbrev pub invariant-loop-k : goal.invariant-loop-k
invariant-loop-k l = l.keys.items ++ stages_keys l.layout (l.stages - l.k) l.k ≡ l.fn.keys.items ++ stages_keys l.layout (l.stages - 1) 1
