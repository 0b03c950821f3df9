use Rattle.std.proofs.Common.{◌≡◌, ◌++◌, drop}
use Rattle.kp_gen.specs.Generated.{for_each, put}
use Rattle.kp_gen.proofs.stated.add_puts.Given as goal

abbrev pub invariant-loop-i : goal.invariant-loop-i
invariant-loop-i l = l.stmts.items ++ for_each (λ i r. put l.count i) l.i (drop l.i l.routes) ≡ l.initial.stmts.items ++ for_each (λ i r. put l.count i) 0 l.routes
