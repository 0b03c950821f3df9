use Rattle.std.proofs.Common.{◌≡◌, drop}
use Rattle.kp_machine.specs.Slots.{targets_of, width_of}
use Rattle.kp_design.proofs.tables.target_width.Given as goal

abbrev pub invariant-loop-decl : goal.invariant-loop-decl
invariant-loop-decl l = width_of (targets_of (drop l.decl-index l.decls)) l.name ≡ width_of (targets_of l.decls) l.name
