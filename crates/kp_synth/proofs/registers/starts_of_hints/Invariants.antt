use Rattle.std.proofs.Common.{◌≡◌, ◌++◌, drop}
use Rattle.kp_machine.specs.Machine.{hint_starts}
use Rattle.kp_synth.proofs.registers.starts_of_hints.Given as goal

abbrev pub invariant-loop-decl : goal.invariant-loop-decl
invariant-loop-decl l = l.starts.items ++ hint_starts (drop l.decl-index l.decls) ≡ hint_starts l.decls
