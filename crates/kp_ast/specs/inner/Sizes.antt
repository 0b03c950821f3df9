-- The sizes of several expressions.
use Rattle.std.specs.Prelude.{ℕ, List, sum_by}
use Rattle.kp_ast.specs.{Size.Bodies, Size.size_with, declared.tree.Expr.Expr}

abbrev pub sizes_with : Bodies → List Expr → ℕ
sizes_with bodies es = sum_by (size_with bodies) es
