use Rattle.std.proofs.Common.{◌≡◌, ◌≤◌, length}
use Rattle.kp_synth_registers.specs.Keys.{keys_of}
use Rattle.kp_core_ports.specs.Names.{lines_below}
use Rattle.kp_core_ports.proofs.table.names_text.Given as goal

abbrev pub invariant-loop-register : goal.invariant-loop-register
invariant-loop-register l = (l.text.items ≡ lines_below l.net l.layout l.register) × (l.register ≤ length (keys_of l.layout))
