use Rattle.std.proofs.Common.{◌≡◌, ◌++◌, map, drop}
use Rattle.kp_machine.specs.Slots.{targets_of}
use Rattle.kp_run.specs.Places.{place_in}
use Rattle.kp_run.proofs.places.places_of.Given as goal

abbrev pub invariant-loop-decl : goal.invariant-loop-decl
invariant-loop-decl l = l.places.items ++ map (place_in l.net) (targets_of (drop l.decl-index l.decls)) ≡ map (place_in l.net) (targets_of l.decls)
