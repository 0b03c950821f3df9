use Rattle.std.proofs.Common.{◌≡◌, ◌+◌, ◌≤◌, min, drop}
use Rattle.kp_ast.specs.{Size.bodies_of, inner.Sizes.sizes_with}
use Rattle.kp_ast.proofs.size.+size.Given as goal

abbrev pub invariant-expanded_sizes-loop-e : goal.invariant-expanded_sizes-loop-e
invariant-expanded_sizes-loop-e l = record {
  within : l.total ≤ 100001;
  counted : min (l.total + sizes_with (bodies_of l.decls) (drop l.e-index l.es)) 100001
      ≡ min (sizes_with (bodies_of l.decls) l.es) 100001;
}
