use Rattle.std.{proofs.Common.◌≡◌, proofs.Common.drop, specs.List.flat_map}
use Rattle.kp_lint.specs.Tables.{value_of}
use Rattle.kp_lint.specs.{Used.names_in_decl, inner.Noted.noted}
use Rattle.kp_lint.proofs.used.add_decls.Given as goal

abbrev pub invariant-loop-decl : goal.invariant-loop-decl
invariant-loop-decl l = noted (value_of l.used.entries) (flat_map names_in_decl (drop l.decl-index l.decls)) ≡ noted (value_of l.initial.used.entries) (flat_map names_in_decl l.decls)
