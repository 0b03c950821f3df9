use Rattle.std.proofs.Common.{◌≡◌, ◌++◌, drop}
use Rattle.kp_gen.specs.Generated.{for_each, register}
use Rattle.kp_gen.proofs.declared.add_registers.Given as goal

abbrev pub invariant-loop-i : goal.invariant-loop-i
invariant-loop-i l = l.decls.items ++ for_each (λ i r. register i) l.i (drop l.i l.routes) ≡ l.initial.decls.items ++ for_each (λ i r. register i) 0 l.routes
