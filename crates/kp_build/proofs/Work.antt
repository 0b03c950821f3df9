-- How much is left of a walk over an expression and the functions that it may call.
use Rattle.std.{proofs.Common.ℕ, proofs.Common.◌+◌, proofs.Common.List, specs.Prelude.sum_by}
use Rattle.kp_ast.specs.{declared.tree.Decl.Decl, declared.tree.Expr.Expr, Size.size_with, Size.no_bodies}
use Rattle.kp_ast.specs.declared.tree.Decl.TheVariants as decls

-- the steps in an expression itself, where a call counts as one
abbrev pub steps : Expr → ℕ
steps = size_with no_bodies

abbrev pub all_steps : List Expr → ℕ
all_steps es = sum_by steps es

abbrev pub work_of : Decl → ℕ
work_of (decls.Func f) = 1 + steps f.body
work_of _ = 1

abbrev pub work : List Decl → ℕ
work ds = sum_by work_of ds
