use Rattle.std.proofs.Common.{◌≡◌, drop}
use Rattle.kp_machine.specs.Slots.{targets_of, result_to}
use Rattle.kp_design.proofs.tables.port_to.Given as goal

abbrev pub invariant-loop-decl : goal.invariant-loop-decl
invariant-loop-decl l = result_to (targets_of l.job.decls) (drop l.decl-index l.job.decls) l.target ≡ result_to (targets_of l.job.decls) l.job.decls l.target
