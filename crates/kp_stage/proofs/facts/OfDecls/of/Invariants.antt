use Rattle.std.proofs.Common.{◌≡◌, drop}
use Rattle.kp_stage.specs.inner.Tables.{named, none_named, decls_noted}
use Rattle.kp_stage.proofs.facts.OfDecls.of.Given as goal

abbrev pub invariant-loop-i : goal.invariant-loop-i
invariant-loop-i l = decls_noted (named l.named) l.i (drop l.i l.decls) ≡ decls_noted none_named 0 l.decls
