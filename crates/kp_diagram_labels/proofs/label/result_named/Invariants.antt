use Rattle.std.proofs.Common.{◌≡◌, drop}
use Rattle.kp_machine.specs.Slots.{result_named}
use Rattle.kp_diagram_labels.proofs.label.result_named.Given as goal

abbrev pub invariant-loop-decl : goal.invariant-loop-decl
invariant-loop-decl l = result_named (drop l.decl-index l.decls) l.name ≡ result_named l.decls l.name
