-- How much work is in the bodies of functions.
use Rattle.std.{proofs.Common.ℕ, proofs.Common.◌+◌, proofs.Common.List, specs.Prelude.sum_by}
use Rattle.kp_ast.specs.declared.tree.{Decl.Decl, ExprKind.TheViews.size-Expr}
use Rattle.kp_ast.specs.declared.tree.Decl.TheVariants as decls

abbrev pub weight_of : Decl → ℕ
weight_of (decls.Func f) = 1 + size-Expr f.body
weight_of _ = 1

abbrev pub weight : List Decl → ℕ
weight ds = sum_by weight_of ds
