use Rattle.std.proofs.Common.{◌≡◌, ◌++◌, drop}
use Rattle.kp_machine.specs.Slots.{hints_of, pipes_of, targets_of}
use Rattle.kp_core_ports.specs.Names.{names_of}
use Rattle.kp_core_ports.proofs.names.Names.of.Given as goal

abbrev pub invariant-loop-decl : goal.invariant-loop-decl
invariant-loop-decl l = (l.names.targets.items ++ names_of (targets_of (drop l.decl-index l.decls)) ≡ names_of (targets_of l.decls))
    × (l.names.pipes.items ++ names_of (pipes_of (drop l.decl-index l.decls)) ≡ names_of (pipes_of l.decls))
    × (l.names.hints.items ++ names_of (hints_of (drop l.decl-index l.decls)) ≡ names_of (hints_of l.decls))
