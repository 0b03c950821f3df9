-- Expressions that are written alike: literals, names, `~`, slices and binary operators. Others aren't compared.
use Rattle.std.specs.Prelude.{Bool, false, ◌&&◌, ◌==◌}
use Rattle.std.specs.Str.{bytes_eq}
use Rattle.kp_bits.specs.Operators.{symbol}
use Rattle.kp_ast.specs.Expressions.{is_same_name}
use Rattle.kp_ast.specs.declared.tree.{Expr.Expr, ExprKind.ExprKind, ExprKind.TheOpen.ExprKind-F, ExprKind.TheOpen.Expr-F, ExprKind.TheFolds.fold-Expr, ExprKind.TheViews.out-ExprKind}
use Rattle.kp_ast.specs.declared.tree.ExprKind.TheOpen as level

-- one level, given which expressions its parts are like
abbrev pub alike_levels : ExprKind-F (Expr → Bool) (Expr → Bool) → ExprKind-F ExprKind Expr → Bool
alike_levels (level.Lit l) (level.Lit m) = (l.width == m.width) && (l.value == m.value)
alike_levels (level.Name p) (level.Name q) = is_same_name p q
alike_levels (level.Not a) (level.Not b) = a b
alike_levels (level.Slice a hi lo) (level.Slice b high low) = (hi == high) && ((lo == low) && a b)
alike_levels (level.Binary f a c) (level.Binary g b d) = bytes_eq (symbol f) (symbol g) && (a b && c d)
alike_levels _ _ = false

abbrev pub alike_kind : ExprKind-F (Expr → Bool) (Expr → Bool) → Expr → Bool
alike_kind kind other = alike_levels kind (out-ExprKind other.kind)

abbrev pub alike_level : Expr-F (Expr → Bool) (Expr → Bool) → Expr → Bool
alike_level e = e.kind

abbrev pub alike : Expr → Expr → Bool
alike = fold-Expr (Expr → Bool) (Expr → Bool) alike_kind alike_level
