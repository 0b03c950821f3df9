use Rattle.std.proofs.Common.{◌≡◌, min, take}
use Rattle.kp_ast.specs.Size.{bodies_of}
use Rattle.kp_ast.proofs.size.body_size.Given as goal

abbrev pub invariant-loop-i : goal.invariant-loop-i
invariant-loop-i l = l.size ≡ min (bodies_of (take l.i l.decls) l.name) 100001
