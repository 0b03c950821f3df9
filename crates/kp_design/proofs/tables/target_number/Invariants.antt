use Rattle.std.proofs.Common.{◌≡◌, ◌≤◌, ◌+◌, drop}
use Rattle.kp_machine.specs.Slots.{targets_of, number_of}
use Rattle.kp_design.proofs.tables.target_number.Given as goal

abbrev pub invariant-loop-decl : goal.invariant-loop-decl
invariant-loop-decl l = record {
  few : l.n ≤ l.decl-index;
  rest : l.n + number_of (targets_of (drop l.decl-index l.decls)) l.name ≡ number_of (targets_of l.decls) l.name;
}
