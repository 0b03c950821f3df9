use Rattle.std.proofs.Common.{◌≡◌, drop}
use Rattle.kp_machine.specs.Slots.{result_named}
use Rattle.kp_seq.proofs.tables.target_of.Given as goal

abbrev pub invariant-loop-decl : goal.invariant-loop-decl
invariant-loop-decl l = result_named (drop l.decl-index l.tables.decls) l.name ≡ result_named l.tables.decls l.name
