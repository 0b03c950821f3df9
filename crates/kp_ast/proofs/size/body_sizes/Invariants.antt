use Rattle.std.proofs.Common.{◌≡◌, take}
use Rattle.kp_ast.specs.Size.{capped_bodies}
use Rattle.kp_ast.proofs.size.body_sizes.Given as goal

abbrev pub invariant-loop-i : goal.invariant-loop-i
invariant-loop-i l = l.sizes.items ≡ capped_bodies (take l.i l.decls)
