use Rattle.std.proofs.Common.{◌≡◌, drop}
use Rattle.kp_machine.specs.Slots.{targets_of}
use Rattle.kp_vread.specs.Matching.{names_file}
use Rattle.kp_vread.proofs.targets.names_file.Given as goal

abbrev pub invariant-loop-decl : goal.invariant-loop-decl
invariant-loop-decl l = names_file (targets_of (drop l.decl-index l.decls)) l.label ≡ names_file (targets_of l.decls) l.label
