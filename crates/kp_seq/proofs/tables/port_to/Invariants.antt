use Rattle.std.proofs.Common.{◌≡◌, drop}
use Rattle.kp_machine.specs.Slots.{result_to}
use Rattle.kp_seq.proofs.tables.port_to.Given as goal

abbrev pub invariant-loop-decl : goal.invariant-loop-decl
invariant-loop-decl l = result_to l.targets (drop l.decl-index l.decls) l.t ≡ result_to l.targets l.decls l.t
