use Rattle.std.proofs.Common.{◌≡◌, ◌++◌, map, drop}
use Rattle.kp_vcd.specs.inner.Shown.{places_from}
use Rattle.kp_vcd.proofs.run_places.places_of.Given as goal

abbrev pub invariant-loop-decl : goal.invariant-loop-decl
invariant-loop-decl l = l.places.items ++ places_from (map (λ r. r.name) l.regs) (drop l.decl-index l.decls) ≡ places_from (map (λ r. r.name) l.regs) l.decls
