use Rattle.std.proofs.Common.{◌≡◌, drop}
use Rattle.kp_paths.specs.inner.Named.{number_named}
use Rattle.kp_paths.proofs.sets.target_set.Given as goal

abbrev pub invariant-loop-decl : goal.invariant-loop-decl
invariant-loop-decl l = number_named l.decls (drop l.decl-index l.decls) l.name ≡ number_named l.decls l.decls l.name
