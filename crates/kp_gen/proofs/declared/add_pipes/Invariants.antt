use Rattle.std.proofs.Common.{◌≡◌, ◌++◌, drop}
use Rattle.kp_gen.specs.Generated.{for_each, pipe}
use Rattle.kp_gen.proofs.declared.add_pipes.Given as goal

abbrev pub invariant-loop-i : goal.invariant-loop-i
invariant-loop-i l = l.decls.items ++ for_each (λ i r. pipe i) l.i (drop l.i l.routes) ≡ l.initial.decls.items ++ for_each (λ i r. pipe i) 0 l.routes
