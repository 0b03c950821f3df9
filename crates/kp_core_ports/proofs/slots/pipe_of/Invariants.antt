use Rattle.std.proofs.Common.{◌≡◌, ◌≤◌, drop}
use Rattle.kp_machine.specs.Slots.{pipes_of}
use Rattle.kp_core_ports.specs.Ports.{pipe_from}
use Rattle.kp_core_ports.proofs.slots.pipe_of.Given as goal

abbrev pub invariant-loop-decl : goal.invariant-loop-decl
invariant-loop-decl l = record {
  few : l.n ≤ l.decl-index;
  rest : pipe_from l.n (pipes_of (drop l.decl-index l.decls)) l.name ≡ pipe_from 0 (pipes_of l.decls) l.name;
}
