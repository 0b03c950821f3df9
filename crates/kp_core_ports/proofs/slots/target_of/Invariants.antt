use Rattle.std.proofs.Common.{◌≡◌, ◌≤◌, drop}
use Rattle.kp_machine.specs.Slots.{targets_of}
use Rattle.kp_core_ports.specs.Ports.{target_from}
use Rattle.kp_core_ports.proofs.slots.target_of.Given as goal

abbrev pub invariant-loop-decl : goal.invariant-loop-decl
invariant-loop-decl l = record {
  few : l.n ≤ l.decl-index;
  rest : target_from l.register l.n (targets_of (drop l.decl-index l.decls)) l.name ≡ target_from l.register 0 (targets_of l.decls) l.name;
}
