use Rattle.std.proofs.Common.{◌≡◌, ◌+◌, ◌≤◌, drop}
use Rattle.kp_machine.specs.Slots.{pipes_of, number_of}
use Rattle.kp_diagram_labels.proofs.label.pipe_number.Given as goal

abbrev pub invariant-loop-decl : goal.invariant-loop-decl
invariant-loop-decl l = (l.p + number_of (pipes_of (drop l.decl-index l.decls)) l.name ≡ number_of (pipes_of l.decls) l.name) × (l.p ≤ l.decl-index)
