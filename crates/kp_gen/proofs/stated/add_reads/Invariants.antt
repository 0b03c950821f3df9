use Rattle.std.proofs.Common.{◌≡◌, ◌++◌, drop}
use Rattle.kp_gen.specs.Generated.{for_each, read}
use Rattle.kp_gen.proofs.stated.add_reads.Given as goal

abbrev pub invariant-loop-i : goal.invariant-loop-i
invariant-loop-i l = l.stmts.items ++ for_each (λ i r. read i) l.i (drop l.i l.routes) ≡ l.initial.stmts.items ++ for_each (λ i r. read i) 0 l.routes
